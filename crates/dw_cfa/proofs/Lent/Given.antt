-- What a run gives is what its programs give, in the standard's terms.
use Rattle.dw_row.proofs.Lent.SameRows.{same_rows}
use Rattle.dw_cfa.specs.InitialRules.{initial_cfa}
use Rattle.dw_cfa.proofs.Words.{◌≡◌, ℕ, suc, ◌<◌, ◌≤◌, Bool, true, false, List, [], ◌∷◌, ◌++◌, length, map, Option, Some, None, Result, Ok, Err, refl, sym, ap, ◌∙◌, subst, inl, inr, arith, if◌then◌else◌, IfErr, IfOk, MatchResult, AllZip}
use Rattle.dw_cfa.proofs.Words.{append-nil, AreBytes, CfaRule, Factors, Input, Instr, LocatedRow, Outcome, Placed, ReadError, Refusal, Refuses, RegRule, Rules, State, Stepping, address_limit, Refused, OutOfMemory, ProgramSpells, cfa_after}
use Rattle.dw_cfa.proofs.Words.{rule_after, CieKept, FdeKept, NeverFalls, onto, location_back, moves_location, Counts, AreSpecified, blank, stepping, FdeFaultBehind, RunFault, Leaves, LeavesTo, ends, HoldsBehind, IsRowAfter, GivesBehind}
use Rattle.dw_cfa.proofs.Words.{GivesBefore, GivesUpTo, RunsBehind, RunsTo, OneRun, RefusedWhereFault, RowsWhereKept, NoneFalls, LastHolds, OneInitial, OneBehind, BehindWhereFault, GivesWhereKept, LeavesWhereKept, RulesBehind, begun, after}
use Rattle.dw_cfa.proofs.Words.{fde_fault, placed, row_if, on_initial, initial_row, run_rows, rows_behind, fde_rows, gives, Gives}
use Rattle.dw_cfa.proofs.Lent.{FaultLaws.{leaves, initial_leaves, leaves_initial, stops_of, fde_fault_found, fde_fault_only, cie_fault_found, cie_fault_only, run_refused, refused_run}}
use Rattle.dw_cfa.proofs.Lent.{BehindLaws.{behind_gives, gives_behind, gives_rows, holds_behind, rows_are, run_behind}, Forward.{Follows, Holds, after_follows, begun_follows}, RowsAt.instrs_of, RunLaws.{program_placed, run_from}}
use Rattle.dw_cfa.proofs.Stops.{ends as state_behind, AllRun, RefusedNext}

-- rows that end after so many instructions each
abbrev pub AreRowsAfter : Rules → ℕ → List Instr → List ℕ → List LocatedRow → Type 0
AreRowsAfter initial begin instrs ks rows = AllZip (IsRowAfter initial begin instrs) ks rows

-- ---- a run behind some instructions

module _ (initial : Rules) (begin : ℕ) where
  -- rows that end after so many more instructions each
  abbrev pub AreFrom : List Instr → List Instr → List ℕ → List LocatedRow → Type 0
  AreFrom earlier instrs ks rows = AllZip (λ (k : ℕ) (row : LocatedRow). (row.location ≡ location_back begin (onto earlier instrs k)) × Holds initial (onto earlier instrs k) 0 row.row) ks rows

  one_more : (i : Instr) (earlier instrs : List Instr) (ks : List ℕ) (rows : List LocatedRow) → AreFrom (i ∷ earlier) instrs ks rows → AreFrom earlier (i ∷ instrs) (map suc ks) rows
  one_more i earlier instrs [] [] h = tt
  one_more i earlier instrs (k ∷ ks) (row ∷ rows) h = (h.0, one_more i earlier instrs ks rows h.1)
  one_more i earlier instrs ks rows h = absurd assumption

  -- a row ends before the first of them, or it does not
  row_if_from : (b : Bool) (i : Instr) (earlier instrs : List Instr) (last : List ℕ) (s : State) (next : Outcome) → Follows initial begin earlier s
      → AreFrom (i ∷ earlier) instrs (ends last instrs) next.rows
      → AreFrom earlier (i ∷ instrs) (if b then 0 ∷ map suc (ends last instrs) else map suc (ends last instrs)) (row_if b s next).rows
  row_if_from true i earlier instrs last s next h rest = ((h.location, h.row), one_more i earlier instrs (ends last instrs) next.rows rest)
  row_if_from false i earlier instrs last s next h rest = one_more i earlier instrs (ends last instrs) next.rows rest

  -- the rows of instructions that are run, and those that come behind them all
  are_from : (limit : ℕ) (before tail : List Placed) (fault : Option Refusal) (earlier : List Instr) (s : State) (last : List ℕ) → Follows initial begin earlier s
      → AllRun (fde_fault limit) (after initial) before s
      → (Follows initial begin (onto earlier (instrs_of before) (length (instrs_of before))) (state_behind (after initial) before s)
      → AreFrom (onto earlier (instrs_of before) (length (instrs_of before))) [] last (fde_rows limit initial tail fault (state_behind (after initial) before s)).rows)
      → AreFrom earlier (instrs_of before) (ends last (instrs_of before)) (fde_rows limit initial (before ++ tail) fault s).rows
  unfolding fde_rows
  are_from limit [] tail fault earlier s last h run end = end h
  are_from limit (p ∷ before) tail fault earlier s last h run end =
      let on = after_follows initial begin p.instr earlier s limit h run.0 in
      let rest = are_from limit before tail fault (p.instr ∷ earlier) (after initial p.instr s) last on run.1 end in
      rw run.0 (row_if_from (moves_location p.instr) p.instr earlier (instrs_of before) last s (fde_rows limit initial (before ++ tail) fault (after initial p.instr s)) h rest)

  -- none comes where the next is refused
  pub none_next : (limit : ℕ) (tail : List Placed) (fault : Option Refusal) (s : State) (r : Refusal) → RefusedNext (fde_fault limit) (after initial) tail fault s r → (fde_rows limit initial tail fault s).rows ≡ []
  unfolding fde_rows
  none_next limit [] fault s r h = rw h refl
  none_next limit (item ∷ tail) fault s r h = rw h.0 refl

-- ---- an FDE's program

module _ (initial : Rules) (begin : ℕ) (instrs : List Instr) where
  are_after : (ks : List ℕ) (rows : List LocatedRow) → AreFrom initial begin [] instrs ks rows → AreRowsAfter initial begin instrs ks rows
  are_after [] [] h = tt
  are_after (k ∷ ks) (row ∷ rows) h = (record { location = h.0.0; holds = record { cfa = h.0.1.cfa; rules = h.0.1.rules; listed = h.0.1.listed } }, are_after ks rows h.1)
  are_after ks rows h = absurd assumption

  -- two lists of rows after the same instructions are one
  same_row : (k : ℕ) (row other : LocatedRow) → IsRowAfter initial begin instrs k row → IsRowAfter initial begin instrs k other → row ≡ other
  same_row k row other v w =
      let at : row.location ≡ other.location = v.location ∙ sym w.location in
      let is : row.row ≡ other.row = same_rows row.row other.row v.holds.listed w.holds.listed (v.holds.cfa ∙ sym w.holds.cfa) (λ r. v.holds.rules r ∙ sym (w.holds.rules r)) in
      ap (λ (n : ℕ). let x : LocatedRow = record { location = n; row = row.row } in x) at ∙ ap (λ (y : Rules). let x : LocatedRow = record { location = other.location; row = y } in x) is

  same_after : (ks : List ℕ) (rows others : List LocatedRow) → AreRowsAfter initial begin instrs ks rows → AreRowsAfter initial begin instrs ks others → rows ≡ others
  same_after [] [] [] v w = refl
  same_after (k ∷ ks) (row ∷ rows) (other ∷ others) v w = cc (same_row k row other v.0 w.0, same_after ks rows others v.1 w.1)
  same_after ks rows others v w = absurd assumption

-- a program is one list of instructions
pub one_program : (f : Factors) (i : Input) (instrs others : List Instr) → AreBytes i.bytes → ProgramSpells i.target f instrs i.bytes → ProgramSpells i.target f others i.bytes → instrs ≡ others
one_program f i instrs others h p q = sym (program_placed f i instrs h p).0 ∙ (program_placed f i others h q).0

one_outcome : (o : Outcome) (rows : List LocatedRow) (fault : Option Refusal) → o.rows ≡ rows → o.fault ≡ fault → o ≡ record { rows = rows; fault = fault }
one_outcome o rows fault are is = rw (← are, ← is) refl

module _ (f : Factors) (initial : Rules) (fde : Input) (begin : ℕ) (fb : AreBytes fde.bytes) (listed : AreSpecified 0 initial.registers) (le : begin ≤ address_limit fde.target.size) where
  pub all_given : (rows : List LocatedRow) → rows_behind f initial fde begin ≡ record { rows = rows; fault = None } → GivesBehind f initial fde begin rows
  unfolding rows_behind fde_rows
  all_given rows e =
      let items = (placed f fde).items in
      let run = run_behind f initial fde begin rows e in
      let behind = gives_behind f initial fde begin rows e fb listed le in
      let all = append-nil items in
      let from = are_from initial begin (address_limit fde.target.size) items [] None [] (begun initial begin) (0 ∷ []) (begun_follows initial begin listed) run.0 (λ end. ((end.location, end.row), tt)) in
      let are = ap (λ (o : Outcome). o.rows) (rows_are f initial fde begin rows e) in
      record {
        instrs = instrs_of items;
        program = behind.program;
        kept = behind.kept;
        each = are_after initial begin (instrs_of items) (ends (0 ∷ []) (instrs_of items)) rows (subst (AreFrom initial begin [] (instrs_of items) (ends (0 ∷ []) (instrs_of items))) are (rw all at from));
      }

  -- the rows before the run stops
  rows_stopped : (r : Refusal) (instrs : List Instr) → FdeFaultBehind f initial.cfa fde begin instrs r → AreRowsAfter initial begin instrs (ends [] instrs) (rows_behind f initial fde begin).rows
  unfolding rows_behind
  rows_stopped r instrs fault =
      let limit = address_limit fde.target.size in
      let s = begun initial begin in
      let p = placed f fde in
      let found = stops_of f initial fde begin fb le listed r instrs fault in
      let d = found.0 in
      let earlier = onto [] (instrs_of d.before) (length (instrs_of d.before)) in
      let none = none_next initial begin limit d.after p.fault (state_behind (after initial) d.before s) r d.refused in
      let from = are_from initial begin limit d.before d.after p.fault [] s [] (begun_follows initial begin listed) d.run (λ end. subst (AreFrom initial begin earlier [] []) (sym none) tt) in
      let whole = subst (λ (l : List Placed). AreFrom initial begin [] (instrs_of d.before) (ends [] (instrs_of d.before)) (fde_rows limit initial l p.fault s).rows) (sym d.whole) from in
      are_after initial begin instrs (ends [] instrs) (fde_rows limit initial p.items p.fault s).rows (subst (λ (l : List Instr). AreFrom initial begin [] l (ends [] l) (fde_rows limit initial p.items p.fault s).rows) found.1 whole)

  before_given : (r : Refusal) (rows : List LocatedRow) → rows_behind f initial fde begin ≡ record { rows = rows; fault = Some r } → GivesBefore f initial fde begin r rows
  before_given r rows e =
      let found = fde_fault_found f initial fde begin fb le listed r (ap (λ (o : Outcome). o.fault) e) in
      record { instrs = found.0; fault = found.1; each = subst (AreRowsAfter initial begin found.0 (ends [] found.0)) (ap (λ (o : Outcome). o.rows) e) (rows_stopped r found.0 found.1) }

  all_only : (rows : List LocatedRow) → GivesBehind f initial fde begin rows → rows_behind f initial fde begin ≡ record { rows = rows; fault = None }
  all_only rows g =
      let some = gives_rows f initial fde begin g.instrs fb listed le g.program g.kept in
      let there = all_given some.0 some.1 in
      let are = one_program f fde there.instrs g.instrs fb there.program g.program in
      let each = subst (λ (l : List Instr). AreRowsAfter initial begin l (ends (0 ∷ []) l) some.0) are there.each in
      let same = same_after initial begin g.instrs (ends (0 ∷ []) g.instrs) some.0 rows each g.each in
      subst (λ (xs : List LocatedRow). rows_behind f initial fde begin ≡ record { rows = xs; fault = None }) same some.1

  before_only : (r : Refusal) (rows : List LocatedRow) → GivesBefore f initial fde begin r rows → rows_behind f initial fde begin ≡ record { rows = rows; fault = Some r }
  before_only r rows g =
      let same = same_after initial begin g.instrs (ends [] g.instrs) (rows_behind f initial fde begin).rows rows (rows_stopped r g.instrs g.fault) g.each in
      one_outcome (rows_behind f initial fde begin) rows (Some r) same (fde_fault_only f initial fde begin fb le listed r (g.instrs, g.fault))

  up_to_given : (fault : Option Refusal) (rows : List LocatedRow) → rows_behind f initial fde begin ≡ record { rows = rows; fault = fault } → GivesUpTo f initial fde begin fault rows
  up_to_given None rows e = all_given rows e
  up_to_given (Some r) rows e = before_given r rows e

  up_to_only : (fault : Option Refusal) (rows : List LocatedRow) → GivesUpTo f initial fde begin fault rows → rows_behind f initial fde begin ≡ record { rows = rows; fault = fault }
  up_to_only None rows g = all_only rows g
  up_to_only (Some r) rows g = before_only r rows g

  -- the run of an FDE's program gives what the program gives, and nothing else does
  pub behind_runs : RunsBehind f initial fde begin (rows_behind f initial fde begin)
  behind_runs = up_to_given (rows_behind f initial fde begin).fault (rows_behind f initial fde begin).rows refl

  pub runs_behind : (o : Outcome) → RunsBehind f initial fde begin o → o ≡ rows_behind f initial fde begin
  runs_behind o g = sym (up_to_only o.fault o.rows g)

pub one_behind : OneBehind
one_behind f initial fde begin fb listed le = (rows_behind f initial fde begin, behind_runs f initial fde begin fb listed le, runs_behind f initial fde begin fb listed le)

pub gives_where_kept : GivesWhereKept
gives_where_kept f initial fde begin fb listed le instrs program kept =
    let some = gives_rows f initial fde begin instrs fb listed le program kept in (some.0, all_given f initial fde begin fb listed le some.0 some.1, some.2)

pub behind_where_fault : BehindWhereFault
behind_where_fault f initial fde begin fb listed le o g r =
    let same = ap (λ (p : Outcome). p.fault) (runs_behind f initial fde begin fb listed le o g) in
    ((λ e. fde_fault_found f initial fde begin fb le listed r (sym same ∙ e)), λ fault. same ∙ fde_fault_only f initial fde begin fb le listed r fault)

-- ---- a CIE's program

module _ (f : Factors) (cie : Input) (cb : AreBytes cie.bytes) where
  pub leaves_to : (x : Result Rules Refusal) → initial_row (placed f cie) blank ≡ x → LeavesTo f cie x
  leaves_to (Ok row) e = initial_leaves f cie row cb e
  leaves_to (Err r) e = cie_fault_found f cie cb r e

  pub to_leaves : (x : Result Rules Refusal) → LeavesTo f cie x → x ≡ initial_row (placed f cie) blank
  to_leaves (Ok row) (instrs, l) =
      let there = leaves_initial f cie instrs cb l.program l.kept in
      let same = same_rows row there.0 l.listed there.2.listed (l.cfa ∙ sym there.2.cfa) (λ r. l.rules r ∙ sym (there.2.rules r)) in
      ap Ok same ∙ sym there.1
  to_leaves (Err r) fault = sym (cie_fault_only f cie cb r fault)

pub one_initial : OneInitial
one_initial f cie cb = (initial_row (placed f cie) blank, leaves_to f cie cb (initial_row (placed f cie) blank) refl, to_leaves f cie cb)

pub leaves_where_kept : LeavesWhereKept
leaves_where_kept f cie instrs cb program kept = let there = leaves_initial f cie instrs cb program kept in (there.0, there.2)

-- ---- both programs

module _ (f : Factors) (cie fde : Input) (begin : ℕ) (cb : AreBytes cie.bytes) (fb : AreBytes fde.bytes) (le : begin ≤ address_limit fde.target.size) where
  abbrev go : Rules → Outcome
  go initial = fde_rows (address_limit fde.target.size) initial (placed f fde).items (placed f fde).fault (begun initial begin)

  from_initial : (x : Result Rules Refusal) → initial_row (placed f cie) blank ≡ x → RunsTo f cie fde begin (on_initial x go)
  unfolding rows_behind
  from_initial (Ok initial) is = let l = leaves f cie initial cb is in inr (instrs_of (placed f cie).items, initial, l, behind_runs f initial fde begin fb l.listed le)
  from_initial (Err r) is = inl (r, cie_fault_found f cie cb r is, refl)

  -- a run gives what its programs give, and nothing else does
  pub run_runs : RunsTo f cie fde begin (run_rows f cie fde begin)
  unfolding run_rows
  run_runs = from_initial (initial_row (placed f cie) blank) refl

  pub runs_run : (o : Outcome) → RunsTo f cie fde begin o → o ≡ run_rows f cie fde begin
  unfolding run_rows rows_behind
  runs_run o (inl (r, fault, is)) = let none = cie_fault_only f cie cb r fault in is ∙ ap (λ (x : Result Rules Refusal). on_initial x go) (sym none)
  runs_run o (inr (instrs, initial, l, runs)) =
      let run = to_leaves f cie cb (Ok initial) (instrs, l) in
      runs_behind f initial fde begin fb l.listed le o runs ∙ ap (λ (x : Result Rules Refusal). on_initial x go) run

  -- the rows of a run that has no fault
  pub run_gives : (rows : List LocatedRow) → run_rows f cie fde begin ≡ record { rows = rows; fault = None } → Gives f cie fde begin rows
  run_gives rows e = elim (subst (RunsTo f cie fde begin) e run_runs) [
    | inl fails ↦ let some : None ≡ Some fails.0 = ap (λ (o : Outcome). o.fault) fails.2 in absurd cc
    | inr given ↦ given
  ]

  pub gives_run : (rows : List LocatedRow) → Gives f cie fde begin rows → run_rows f cie fde begin ≡ record { rows = rows; fault = None }
  gives_run rows g = sym (runs_run (record { rows = rows; fault = None }) (inr g))

  pub gives_no_fault : (rows : List LocatedRow) → Gives f cie fde begin rows → (run_rows f cie fde begin).fault ≡ None
  gives_no_fault rows g = ap (λ (o : Outcome). o.fault) (gives_run rows g)

pub one_run : OneRun
one_run f cie fde begin cb fb le = (run_rows f cie fde begin, run_runs f cie fde begin cb fb le, runs_run f cie fde begin cb fb le)

pub refused_where_fault : RefusedWhereFault
refused_where_fault f cie fde begin cb fb le o g r =
    let same = ap (λ (p : Outcome). p.fault) (runs_run f cie fde begin cb fb le o g) in
    ((λ e. run_refused f cie fde begin r cb fb le (sym same ∙ e)), λ fault. same ∙ refused_run f cie fde begin r cb fb le fault)

pub given_where_kept : RowsWhereKept
given_where_kept f cie fde begin cb fb le ci fi cp fp = (
  λ given.
      let g = given.1 in let l = g.2 in let b = g.3 in
      let same = one_program f cie g.0 ci cb l.program cp in
      let kept = subst (FdeKept (address_limit fde.target.size) begin g.1.cfa) (one_program f fde b.instrs fi fb b.program fp) b.kept in
      (subst CieKept same l.kept, subst (λ (c : CfaRule). FdeKept (address_limit fde.target.size) begin c fi) (l.cfa ∙ ap initial_cfa same) kept),
  λ kept.
      let left = leaves_initial f cie ci cb cp kept.0 in
      let behind = subst (λ (c : CfaRule). FdeKept (address_limit fde.target.size) begin c fi) (sym left.2.cfa) kept.1 in
      let rows = gives_rows f left.0 fde begin fi fb left.2.listed le fp behind in
      (rows.0, (ci, left.0, left.2, all_given f left.0 fde begin fb left.2.listed le rows.0 rows.1)),
)

pub given_falls : NoneFalls
given_falls f cie fde begin cb fb le rows g = subst (λ (o : Outcome). NeverFalls begin o.rows) (gives_run f cie fde begin cb fb le rows g) (run_from f cie fde begin).falls

pub given_holds : LastHolds
given_holds f cie fde begin cb fb le rows (instrs, initial, l, g) ci fi cp fp a k from counts =
    let e = all_only f initial fde begin fb l.listed le rows g in
    let are = (program_placed f fde fi fb fp).0 in
    let found = holds_behind f initial fde begin rows e l.listed a k from (subst (λ (l : List Instr). Counts begin l a k) (sym are) counts) in
    let holds = subst (λ (l : List Instr). HoldsBehind initial l k found.0) are found.2 in
    let left = subst (λ (x : List Instr). Leaves f cie x initial) (one_program f cie instrs ci cb l.program cp) l in (
      found.0,
      found.1,
      record {
        cfa = holds.cfa ∙ ap (λ (c : CfaRule). cfa_after c fi k) left.cfa;
        rules = λ r. holds.rules r ∙ ap (λ (x : RegRule). rule_after x fi r k) (left.rules r);
        listed = holds.listed;
      },
    )

pub refusal_weaker : (e : ReadError) (P Q : Refusal → Type 0) → ((r : Refusal) → P r → Q r) → Refuses P e → Refuses Q e
refusal_weaker (Refused r) P Q weaker h = weaker r h
refusal_weaker OutOfMemory P Q weaker h = tt

-- ---- a run by rows

module _ (f : Factors) (cie fde : Input) (begin : ℕ) (cb : AreBytes cie.bytes) (fb : AreBytes fde.bytes) (le : begin ≤ address_limit fde.target.size) where
  -- that has come to its end gives these rows, and programs give no others; one that fails has a fault
  pub run_answers : {X : Type 0} (o : Outcome) → RunsTo f cie fde begin o → (result : Result X ReadError) (items : X → List LocatedRow)
      → IfOk result (λ x. o ≡ gives (items x)) → IfErr result (Refuses (λ r. o.fault ≡ Some r))
      → IfOk result (λ x. Gives f cie fde begin (items x)) × IfErr result (Refuses (RunFault f cie fde begin))
      × ((rows : List LocatedRow) → Gives f cie fde begin rows → MatchResult result (λ x. items x ≡ rows) (λ e. e ≡ OutOfMemory))
  run_answers o begun (Ok x) items ended at =
      let run : run_rows f cie fde begin ≡ gives (items x) = sym (runs_run f cie fde begin cb fb le o begun) ∙ ended in
      (run_gives f cie fde begin cb fb le (items x) run, tt, λ rows given. ap (λ (p : Outcome). p.rows) (sym run ∙ gives_run f cie fde begin cb fb le rows given))
  run_answers o begun (Err OutOfMemory) items ended at = (tt, tt, λ rows given. refl)
  run_answers o begun (Err (Refused r)) items ended at =
      let run : (run_rows f cie fde begin).fault ≡ Some r = ap (λ (p : Outcome). p.fault) (sym (runs_run f cie fde begin cb fb le o begun)) ∙ at in
      (tt, run_refused f cie fde begin r cb fb le run, λ rows given. let both : None ≡ Some r = sym (gives_no_fault f cie fde begin cb fb le rows given) ∙ run in absurd cc)

-- ---- for the layers above

-- a CIE's program leaves one row
pub leaves_one : (f : Factors) (cie : Input) (instrs others : List Instr) (row other : Rules) → AreBytes cie.bytes → Leaves f cie instrs row → Leaves f cie others other → row ≡ other
leaves_one f cie instrs others row other cb v w =
    let same : Ok row ≡ Ok other = to_leaves f cie cb (Ok row) (instrs, v) ∙ sym (to_leaves f cie cb (Ok other) (others, w)) in
    cc

-- rows behind an initial row hold the rules at each address
pub rules_behind : (f : Factors) (initial : Rules) (fde : Input) (begin : ℕ) (o : Outcome) → AreBytes fde.bytes → AreSpecified 0 initial.registers → begin ≤ address_limit fde.target.size
    → RunsBehind f initial fde begin o → o.fault ≡ None → (instrs : List Instr) × RulesBehind f initial fde begin instrs o.rows
rules_behind f initial fde begin o fb listed le runs none = behind_gives f initial fde begin o.rows fb listed le (sym (runs_behind f initial fde begin fb listed le o runs) ∙ one_outcome o o.rows None refl none)

-- ---- what the calls answer

pub given_runs : (f : Factors) (cie fde : Input) (begin : ℕ) (row : Rules) (s : Stepping) → s ≡ stepping row (run_rows f cie fde begin) → AreBytes cie.bytes → AreBytes fde.bytes → begin < address_limit fde.target.size → RunsTo f cie fde begin s.outcome
given_runs f cie fde begin row s e cb fb lt = subst (RunsTo f cie fde begin) (sym (ap (λ (x : Stepping). x.outcome) e)) (run_runs f cie fde begin cb fb (omega arith))
