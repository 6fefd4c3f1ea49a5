-- A run is refused exactly with the first fault of its programs.
use Rattle.dw_cfa.proofs.Words.{◌≡◌, ◌⊎◌, ℕ, ◌+◌, ◌<◌, ◌≤◌, Bool, true, false, cond, List, [], ◌∷◌, ◌++◌, length, Option, Some, None, Result, Ok, Err, refl, sym, ap, ◌∙◌, subst, inl, inr, arith, IsTrue, not, nat_lt, count_by, ◌↔◌, take_all}
use Rattle.dw_cfa.proofs.Words.{append-nil, lt-ltb, le-ltb, nat_tests, AreBytes, CfaRule, Code, Factors, Input, Instr, Outcome, Placed, Refusal, Rules, State, Target, address_limit, NotInCie, LocationBackwards, LocationTooLarge}
use Rattle.dw_cfa.proofs.Words.{StateStackFull, CfaNotRegister, SetLoc, Advance, RememberState, RestoreState, ProgramSpells, taken_bytes, onto, cfa_after, is_remember, is_restore, in_cie, keeps_half, IsRegisterRule, CieKept, FdeKept}
use Rattle.dw_cfa.proofs.Words.{Leaves, InitialLeaves, LeavesInitial, BreaksHalf, CieBreaks, FdeBreaks, FaultBehind, FdeFaultBehind, CieFault, FdeFault, RunFault, AreSpecified, blank, begun, written, after, half_fault, cie_fault, fde_fault}
use Rattle.dw_cfa.proofs.Words.{Placing, placed, initial_row, on_initial, fde_rows, rows_behind, run_rows}
use Rattle.dw_cfa.proofs.Lent.{Forward.{Follows, begun_follows}, InstrLaws.instr_found, KeptLaws.{cie_kept, cie_runs, counted, fde_kept, kept_fde, all_in_limit}, KeptRuns.{Stands, ended_stands, kept_run, kept_runs}}
use Rattle.dw_cfa.proofs.{Lent.{Listings.{fault_placed, stuck_program}, RowsAt.{instrs_of, run_refusal}, RunLaws.{placed_program, program_placed}}, Divided.{input, placing, divided, left_behind, placed_again, joined_at}}
use Rattle.dw_cfa.proofs.{Initial.{cie_follows, cie_refusal, cie_told, cie_ran}, Stops.{AllRun, RefusedNext, Stops, ends, refusal_end, refusal_of, stops, stopped}}
use Rattle.dw_row.specs.declared.rule.CfaRule.TheVariants as cfa

-- ---- what stands against one instruction is what it breaks

not_half : (c : CfaRule) (i : Instr) (code : Code) (b : Bool) → keeps_half i ≡ b → cond b (Some CfaNotRegister) None ≡ Some code → (IsRegisterRule c → ⊥) → BreaksHalf c i code
not_half c i code true is e none = (cc, is, none)
not_half c i code false is e none = absurd cc

half_broken : (c : CfaRule) (i : Instr) (code : Code) → half_fault i c ≡ Some code → BreaksHalf c i code
half_broken (cfa.Register r n) i code e = absurd cc
half_broken c i code e = not_half c i code (keeps_half i) refl e (λ is. let same : c ≡ cfa.Register is.0 is.1 = is.2 in absurd cc)

broken_half : (c : CfaRule) (i : Instr) (code : Code) → BreaksHalf c i code → half_fault i c ≡ Some code
broken_half (cfa.Register r n) i code h = absurd (h.2 (r, n, refl))
broken_half c i code h = let keeps : keeps_half i ≡ true = h.1 in rw keeps (ap Some (sym h.0))

less_told : (m n : ℕ) (x code : Code) → (cond (nat_lt m n) (Some x) None ≡ Some code) ↔ ((code ≡ x) × (m < n))
less_told m n x code = ((λ e. (grind (arith, nat_tests), grind (arith, nat_tests))), λ h. rw (lt-ltb m n h.1) (ap Some (sym h.0)))

else_told : (m n : ℕ) (x code : Code) → (cond (nat_lt m n) None (Some x) ≡ Some code) ↔ ((code ≡ x) × (n ≤ m))
else_told m n x code = ((λ e. (grind (arith, nat_tests), grind (arith, nat_tests))), λ h. rw (le-ltb m n h.1) (ap Some (sym h.0)))

-- both ways of counting states
counted_all : (p : Instr → Bool) (instrs : List Instr) → count_by p (onto [] instrs (length instrs)) ≡ count_by p instrs
counted_all p instrs = omega (arith, counted p [] instrs (length instrs), ap (λ (l : List Instr). count_by p l) (take_all (length instrs) instrs (omega arith)))

module _ (limit begin : ℕ) (initial : Rules) (instrs : List Instr) where
  fde_breaks : (i : Instr) (row : Rules) (stack : List Rules) (location : ℕ) (code : Code) → Stands limit begin initial (onto [] instrs (length instrs)) (record { row = row; stack = stack; location = location })
      → (fde_fault limit i (record { row = row; stack = stack; location = location }) ≡ Some code) ↔ FdeBreaks limit begin initial.cfa instrs i code
  fde_breaks (SetLoc a) row stack location code h =
      subst (λ (n : ℕ). (cond (nat_lt a location) (Some LocationBackwards) None ≡ Some code) ↔ ((code ≡ LocationBackwards) × (a < n))) h.follows.location (less_told a location LocationBackwards code)
  fde_breaks (Advance d) row stack location code h =
      subst (λ (n : ℕ). (cond (nat_lt limit (location + d)) (Some LocationTooLarge) None ≡ Some code) ↔ ((code ≡ LocationTooLarge) × (limit < n + d))) h.follows.location (less_told limit (location + d) LocationTooLarge code)
  fde_breaks RememberState row stack location code h =
      let told = else_told (length stack) 64 StateStackFull code in
      let remembers = counted_all is_remember instrs in
      let restores = counted_all is_restore instrs in
      ((λ e. ((told.0 e).0, omega (arith, (told.0 e).1, h.room, h.balance, remembers, restores))), λ b. told.1 (b.0, omega (arith, b.1, h.balance, remembers, restores)))
  fde_breaks RestoreState row [] location code h = (λ e. (cc, omega (arith, h.balance, counted_all is_remember instrs, counted_all is_restore instrs)), λ b. ap Some (sym b.0))
  fde_breaks RestoreState row (top ∷ stack) location code h = (λ e. absurd cc, λ b. absurd (omega (arith, b.1, h.balance, counted_all is_remember instrs, counted_all is_restore instrs)))
  fde_breaks i row stack location code h = (
    λ e. subst (λ (c : CfaRule). BreaksHalf c i code) h.follows.row.cfa (half_broken row.cfa i code e),
    λ b. broken_half row.cfa i code (subst (λ (c : CfaRule). BreaksHalf c i code) (sym h.follows.row.cfa) b),
  )

cie_broken : (i : Instr) (c : CfaRule) (code : Code) (b : Bool) → in_cie i ≡ b
    → (cond b (half_fault i c) (Some NotInCie) ≡ Some code) ↔ ((code ≡ NotInCie) × IsTrue (not (in_cie i))) ⊎ (IsTrue (in_cie i) × BreaksHalf c i code)
cie_broken i c code true is = (
  λ e. inr (is, half_broken c i code e),
  λ h. elim h [ inl out ↦ let no : not (in_cie i) ≡ true = out.1 in let other : not (in_cie i) ≡ false = ap not is in absurd cc | inr half ↦ broken_half c i code half.1 ],
)
cie_broken i c code false is = (
  λ e. inl (cc, ap not is),
  λ h. elim h [ inl out ↦ ap Some (sym out.0) | inr half ↦ let in_it : in_cie i ≡ true = half.0 in absurd cc ],
)

cie_breaks : (instrs : List Instr) (i : Instr) (row : Rules) (code : Code) → row.cfa ≡ cfa_after cfa.Unset instrs (length instrs) → (cie_fault i row ≡ Some code) ↔ CieBreaks instrs i code
cie_breaks instrs i row code is =
    subst (λ (c : CfaRule). (cie_fault i row ≡ Some code) ↔ ((code ≡ NotInCie) × IsTrue (not (in_cie i))) ⊎ (IsTrue (in_cie i) × BreaksHalf c i code)) is
    (cie_broken i row.cfa code (in_cie i) refl)

-- ---- a program of either kind

-- its instructions are run where they keep what they have to, and what stands against the next one is what that breaks
pub record Judges (t : Target) (f : Factors) (S : Type 0) (fault : Instr → S → Option Code) (next : Instr → S → S) (start : S) (Kept : List Instr → Type 0) (Breaks : List Instr → Instr → Code → Type 0) : Type 0 where
  pub keeps : (items : List Placed) (front : List ℕ) → ProgramSpells t f (instrs_of items) front → AllRun fault next items start ↔ Kept (instrs_of items)
  pub breaks : (items : List Placed) (front : List ℕ) → ProgramSpells t f (instrs_of items) front → AllRun fault next items start
      → (i : Instr) (code : Code) → (fault i (ends next items start) ≡ Some code) ↔ Breaks (instrs_of items) i code

module _ (f : Factors) (i : Input) (h : AreBytes i.bytes) (S : Type 0) (fault : Instr → S → Option Code) (next : Instr → S → S) (start : S)
    (Kept : List Instr → Type 0) (Breaks : List Instr → Instr → Code → Type 0) (judges : Judges i.target f S fault next start Kept Breaks) where
  abbrev pub FaultAfter : List Instr → Refusal → Type 0
  FaultAfter instrs r = Kept instrs × FaultBehind f i instrs (Breaks instrs) r

  -- where it stops is its first fault
  found_behind : (before after : List Placed) (last : Option Refusal) (r : Refusal) → placed f i ≡ placing (before ++ after) last → AllRun fault next before start → RefusedNext fault next after last (ends next before start) r
      → FaultAfter (instrs_of before) r
  found_behind before [] last r whole run is =
      let d = divided f before [] (Some r) i h (whole ∙ ap (placing (before ++ [])) is) in
      let left = left_behind f i before [] (Some r) d in
      ((judges.keeps before d.front d.read).0 run, inl (stuck_program f i (instrs_of before) r d.front d.rest d.bytes d.whole d.read left.0 left.1))
  found_behind before (item ∷ after) last r whole run is =
      let d = divided f before (item ∷ after) last i h whole in
      let left = left_behind f i before (item ∷ after) last d in
      let found = instr_found f (input (i.at + length d.front) d.rest i.target) left.0 item.instr d.bytes left.1 in (
        (judges.keeps before d.front d.read).0 run,
        inr (record {
          front = d.front;
          spelling = found.0;
          rest = left.0.bytes;
          instr = item.instr;
          whole = d.whole ∙ ap (λ (l : List ℕ). d.front ++ l) found.2.bytes;
          read = d.read;
          next = found.1;
          breaks = (judges.breaks before d.front d.read run item.instr r.code).0 is.0;
          place = is.1 ∙ left.2;
        }),
      )

  fault_found : (r : Refusal) → refusal_of fault next (placed f i).items (placed f i).fault start ≡ Some r → (instrs : List Instr) × FaultAfter instrs r
  fault_found r e =
      let d = stops S fault next (placed f i).items (placed f i).fault start r e in
      (instrs_of d.before, found_behind d.before d.after (placed f i).fault r (ap (λ (l : List Placed). placing l (placed f i).fault) d.whole) d.run d.refused)

  -- and it stops where its first fault is
  pub stops_at : (r : Refusal) (instrs : List Instr) → FaultAfter instrs r → (d : Stops S fault next (placed f i).items (placed f i).fault start r) × (instrs_of d.before ≡ instrs)
  stops_at r instrs (kept, inl stuck) =
      let items = (placed f i).items in
      let read = fault_placed f i instrs r h stuck in
      let run = (judges.keeps items stuck.front (subst (λ (l : List Instr). ProgramSpells i.target f l stuck.front) (sym read.0) stuck.read)).1 (subst Kept (sym read.0) kept) in
      (record { before = items; after = []; whole = sym (append-nil items); run = run; refused = read.1 }, read.0)
  stops_at r instrs (kept, inr b) =
      let rest = b.spelling ++ b.rest in
      let here = input (i.at + length b.front) rest i.target in
      let j = joined_at f i instrs b.front rest h b.whole b.read in
      let first = placed_again f i.target b.instr b.spelling here.at b.rest b.next (taken_bytes i here b.front (record { bytes = b.whole; at = refl; target = refl }) h) in
      let read = subst (λ (l : List Instr). ProgramSpells i.target f l b.front) (sym j.are) b.read in
      let run = (judges.keeps j.before b.front read).1 (subst Kept (sym j.are) kept) in
      let fault = (judges.breaks j.before b.front read run b.instr r.code).1 (subst (λ (l : List Instr). Breaks l b.instr r.code) (sym j.are) b.breaks) in
      let items = ap (λ (l : Placing). l.items) j.whole ∙ ap (λ (l : Placing). j.before ++ l.items) first in
      (record { before = j.before; after = _; whole = items; run = run; refused = (fault, b.place) }, j.are)

  fault_only : (r : Refusal) → (instrs : List Instr) × FaultAfter instrs r → refusal_of fault next (placed f i).items (placed f i).fault start ≡ Some r
  fault_only r (instrs, there) = stopped S fault next (placed f i).items (placed f i).fault start r (stops_at r instrs there).0

-- ---- an FDE's program

pub begun_stands : (limit begin : ℕ) (initial : Rules) → AreSpecified 0 initial.registers → begin ≤ limit → Stands limit begin initial [] (begun initial begin)
begun_stands limit begin initial listed le = record { follows = begun_follows initial begin listed; balance = refl; room = omega arith; within = le }

module _ (f : Factors) (initial : Rules) (i : Input) (begin : ℕ) (h : AreBytes i.bytes) (le : begin ≤ address_limit i.target.size) (listed : AreSpecified 0 initial.registers) where
  abbrev limit : ℕ
  limit = address_limit i.target.size

  pub fde_judges : Judges i.target f State (fde_fault limit) (after initial) (begun initial begin) (FdeKept limit begin initial.cfa) (FdeBreaks limit begin initial.cfa)
  fde_judges = record {
    keeps = λ items front read.
        let all = all_in_limit i.target f (instrs_of items) front read in
        let stands = begun_stands limit begin initial listed le in (
          λ run. fde_kept limit begin initial.cfa (instrs_of items) (kept_run limit begin initial items [] (begun initial begin) stands all run),
          λ kept. kept_runs limit begin initial items [] (begun initial begin) stands all (kept_fde limit begin initial.cfa (instrs_of items) kept),
        );
    breaks = λ items front read run instr code.
        let end = ends (after initial) items (begun initial begin) in
        let stands = ended_stands limit begin initial items [] (begun initial begin) (begun_stands limit begin initial listed le) (all_in_limit i.target f (instrs_of items) front read) run in
        fde_breaks limit begin initial (instrs_of items) instr end.row end.stack end.location code stands;
  }

  pub stops_of : (r : Refusal) (instrs : List Instr) → FdeFaultBehind f initial.cfa i begin instrs r → (d : Stops State (fde_fault limit) (after initial) (placed f i).items (placed f i).fault (begun initial begin) r) × (instrs_of d.before ≡ instrs)
  stops_of = stops_at f i h State (fde_fault limit) (after initial) (begun initial begin) (FdeKept limit begin initial.cfa) (FdeBreaks limit begin initial.cfa) fde_judges

  pub fde_fault_found : (r : Refusal) → (rows_behind f initial i begin).fault ≡ Some r → FdeFault f initial.cfa i begin r
  unfolding rows_behind
  fde_fault_found r e =
      fault_found f i h State (fde_fault limit) (after initial) (begun initial begin) (FdeKept limit begin initial.cfa) (FdeBreaks limit begin initial.cfa) fde_judges r
      (sym (run_refusal limit initial (placed f i).items (placed f i).fault (begun initial begin)) ∙ e)

  pub fde_fault_only : (r : Refusal) → FdeFault f initial.cfa i begin r → (rows_behind f initial i begin).fault ≡ Some r
  unfolding rows_behind
  fde_fault_only r fault =
      run_refusal limit initial (placed f i).items (placed f i).fault (begun initial begin)
      ∙ fault_only f i h State (fde_fault limit) (after initial) (begun initial begin) (FdeKept limit begin initial.cfa) (FdeBreaks limit begin initial.cfa) fde_judges r fault

-- ---- a CIE's program

cie_cfa : (items : List Placed) → AllRun cie_fault written items blank → (ends written items blank).cfa ≡ cfa_after cfa.Unset (instrs_of items) (length (instrs_of items))
cie_cfa items run = (cie_follows items [] blank (begun_follows blank 0 tt) run).row.cfa

module _ (f : Factors) (i : Input) (h : AreBytes i.bytes) where
  cie_judges : Judges i.target f Rules cie_fault written blank CieKept CieBreaks
  cie_judges = record {
    keeps = λ items front read. (cie_kept items, λ kept. cie_runs items [] blank (begun_follows blank 0 tt) kept.allowed kept.halves);
    breaks = λ items front read run instr code. cie_breaks (instrs_of items) instr (ends written items blank) code (cie_cfa items run);
  }

  pub cie_fault_found : (r : Refusal) → initial_row (placed f i) blank ≡ Err r → CieFault f i r
  cie_fault_found r e =
      let there = fault_found f i h Rules cie_fault written blank CieKept CieBreaks cie_judges r (cie_refusal (placed f i).items (placed f i).fault blank r e) in
      (there.0, there.1.0, there.1.1)

  pub cie_fault_only : (r : Refusal) → CieFault f i r → initial_row (placed f i) blank ≡ Err r
  cie_fault_only r (instrs, kept, there) = cie_told (placed f i).items (placed f i).fault blank (Some r) (fault_only f i h Rules cie_fault written blank CieKept CieBreaks cie_judges r (instrs, (kept, there)))

-- ---- both

on_initial_fault : (res : Result Rules Refusal) (go : Rules → Outcome) (r : Refusal) → (on_initial res go).fault ≡ Some r
    → (res ≡ Err r) ⊎ ((initial : Rules) × (res ≡ Ok initial) × ((go initial).fault ≡ Some r))
on_initial_fault (Ok initial) go r e = inr (initial, refl, e)
on_initial_fault (Err q) go r e = inl cc

pub leaves : (f : Factors) (cie : Input) (initial : Rules) → AreBytes cie.bytes → initial_row (placed f cie) blank ≡ Ok initial → Leaves f cie (instrs_of (placed f cie).items) initial
leaves f cie initial h e =
    let items = (placed f cie).items in
    let ran = cie_ran items (placed f cie).fault blank initial e in
    let follows = subst (λ (r : Rules). Follows blank 0 (onto [] (instrs_of items) (length (instrs_of items))) (begun r 0)) ran.2 (cie_follows items [] blank (begun_follows blank 0 tt) ran.0) in
    record {
      program = placed_program f cie h ran.1;
      kept = cie_kept items ran.0;
      cfa = follows.row.cfa;
      rules = follows.row.rules;
      listed = follows.row.listed;
    }

pub initial_leaves : InitialLeaves
initial_leaves f cie row h e = (instrs_of (placed f cie).items, leaves f cie row h e)

pub leaves_initial : LeavesInitial
leaves_initial f cie instrs h program kept =
    let read = program_placed f cie instrs h program in
    let items = (placed f cie).items in
    let kept_read = subst CieKept (sym read.0) kept in
    let all = cie_runs items [] blank (begun_follows blank 0 tt) kept_read.allowed kept_read.halves in
    let run = cie_told items (placed f cie).fault blank None (refusal_end cie_fault written items (placed f cie).fault blank all ∙ read.1) in
    (ends written items blank, run, subst (λ (l : List Instr). Leaves f cie l (ends written items blank)) read.0 (leaves f cie (ends written items blank) h run))

module _ (f : Factors) (cie fde : Input) (begin : ℕ) (r : Refusal) (cb : AreBytes cie.bytes) (fb : AreBytes fde.bytes) (le : begin ≤ address_limit fde.target.size) where
  pub run_refused : (run_rows f cie fde begin).fault ≡ Some r → RunFault f cie fde begin r
  unfolding run_rows rows_behind
  run_refused e = elim (on_initial_fault (initial_row (placed f cie) blank) (λ initial. fde_rows (address_limit fde.target.size) initial (placed f fde).items (placed f fde).fault (begun initial begin)) r e) [
    | inl refused ↦ inl (cie_fault_found f cie cb r refused)
    | inr went ↦
        let left = leaves f cie went.0 cb went.1 in
        inr (instrs_of (placed f cie).items, left.program, left.kept, subst (λ (c : CfaRule). FdeFault f c fde begin r) left.cfa (fde_fault_found f went.0 fde begin fb le left.listed r went.2))
  ]

  pub refused_run : RunFault f cie fde begin r → (run_rows f cie fde begin).fault ≡ Some r
  unfolding run_rows rows_behind
  refused_run (inl fault) = rw (cie_fault_only f cie cb r fault) refl
  refused_run (inr (instrs, program, kept, fault)) =
      let left = leaves_initial f cie instrs cb program kept in
      rw left.1 (fde_fault_only f left.0 fde begin fb le left.2.listed r (subst (λ (c : CfaRule). FdeFault f c fde begin r) (sym left.2.cfa) fault))
