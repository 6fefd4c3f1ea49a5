-- The rows of an FDE's program behind an initial row.
use Rattle.dw_cfa.proofs.Words.{◌≡◌, ℕ, ◌+◌, ◌≤◌, Bool, true, false, cond, List, [], ◌∷◌, length, Option, Some, None, refl, sym, ap, ◌∙◌, subst, arith, count_by, sum_by-cons, AreBytes, Factors, Input, Instr, LocatedRow, Outcome, Placed}
use Rattle.dw_cfa.proofs.Words.{Refusal, Rules, State, address_limit, FdeKept, HoldsBehind, ProgramSpells, RulesBehind, BehindGives, GivesRows, moves_location, Counts, AreSpecified, last_at, CountsFrom, begun, after, fde_fault, placed}
use Rattle.dw_cfa.proofs.Words.{row_if, fde_rows, rows_behind}
use Rattle.dw_cfa.proofs.{Lent.FaultLaws.fde_judges, Lent.Forward.begun_follows, Lent.RowsAt.{instrs_of, none_refused, run_refusal, rows_at, never_falls}, Lent.RunLaws.{placed_program, program_placed}, Stops.{AllRun, refusal_end}}

-- a row for each instruction that moves the location, and the last one
starts_more : (moves : Bool) (s : State) (next : Outcome) (n : ℕ) → length next.rows ≡ n → length (row_if moves s next).rows ≡ cond moves 1 0 + n
starts_more true s next n e = omega arith
starts_more false s next n e = omega arith

starts : (limit : ℕ) (initial : Rules) (items : List Placed) (s : State) → AllRun (fde_fault limit) (after initial) items s → length (fde_rows limit initial items None s).rows ≡ 1 + count_by moves_location (instrs_of items)
unfolding fde_rows
starts limit initial [] s run = refl
starts limit initial (item ∷ items) s run =
    let rest = starts limit initial items (after initial item.instr s) run.1 in
    let more = sum_by-cons (λ (x : Instr). cond (moves_location x) 1 0) item.instr (instrs_of items) in
    let n = starts_more (moves_location item.instr) s (fde_rows limit initial items None (after initial item.instr s)) (1 + count_by moves_location (instrs_of items)) rest in
    rw run.0 (omega (arith, n, more))

-- the run of a program that gives rows
module _ (f : Factors) (initial : Rules) (fde : Input) (begin : ℕ) (rows : List LocatedRow) (given : rows_behind f initial fde begin ≡ record { rows = rows; fault = None }) where
  pub run_behind : AllRun (fde_fault (address_limit fde.target.size)) (after initial) (placed f fde).items (begun initial begin) × ((placed f fde).fault ≡ None)
  unfolding rows_behind
  run_behind = none_refused (address_limit fde.target.size) initial (placed f fde).items (placed f fde).fault (begun initial begin) (ap (λ (o : Outcome). o.fault) given)

  pub rows_are : fde_rows (address_limit fde.target.size) initial (placed f fde).items None (begun initial begin) ≡ record { rows = rows; fault = None }
  unfolding rows_behind
  rows_are = ap (λ (o : Option Refusal). fde_rows (address_limit fde.target.size) initial (placed f fde).items o (begun initial begin)) (sym run_behind.1) ∙ given

  -- the row of an address
  pub holds_behind : AreSpecified 0 initial.registers → (a k : ℕ) → begin ≤ a → Counts begin (instrs_of (placed f fde).items) a k
      → (row : Rules) × (last_at a rows ≡ Some row) × HoldsBehind initial (instrs_of (placed f fde).items) k row
  holds_behind listed a k from counts =
      let items = (placed f fde).items in
      let so : CountsFrom begin [] (instrs_of items) a k = record { in_program = counts.in_program; stays = counts.stays; greatest = counts.greatest } in
      let found = rows_at initial begin a (address_limit fde.target.size) items [] (begun initial begin) k rows (begun_follows initial begin listed) from so rows_are in
      (found.0, found.1, record { cfa = found.2.cfa; rules = found.2.rules; listed = found.2.listed })

  pub gives_behind : AreBytes fde.bytes → AreSpecified 0 initial.registers → begin ≤ address_limit fde.target.size → RulesBehind f initial fde begin (instrs_of (placed f fde).items) rows
  gives_behind h listed le =
      let items = (placed f fde).items in
      let program = placed_program f fde h run_behind.1 in
      record {
        program = program;
        kept = ((fde_judges f initial fde begin h le listed).keeps items fde.bytes program).0 run_behind.0;
        starts = ap (λ (o : Outcome). length o.rows) (sym rows_are) ∙ starts (address_limit fde.target.size) initial items (begun initial begin) run_behind.0;
        never_falls = never_falls (address_limit fde.target.size) initial items (begun initial begin) rows begin (omega arith) rows_are;
        holds = holds_behind listed;
      }

pub behind_gives : BehindGives
behind_gives f initial fde begin rows h listed le e = (instrs_of (placed f fde).items, gives_behind f initial fde begin rows e h listed le)

pub gives_rows : GivesRows
unfolding rows_behind
gives_rows f initial fde begin instrs h listed le program kept =
    let limit = address_limit fde.target.size in
    let items = (placed f fde).items in
    let read = program_placed f fde instrs h program in
    let program_read = subst (λ (l : List Instr). ProgramSpells fde.target f l fde.bytes) (sym read.0) program in
    let run = ((fde_judges f initial fde begin h le listed).keeps items fde.bytes program_read).1 (subst (FdeKept limit begin initial.cfa) (sym read.0) kept) in
    let o = fde_rows limit initial items (placed f fde).fault (begun initial begin) in
    let none : o.fault ≡ None = run_refusal limit initial items (placed f fde).fault (begun initial begin) ∙ refusal_end (fde_fault limit) (after initial) items (placed f fde).fault (begun initial begin) run ∙ read.1 in
    let e = ap (λ (x : Option Refusal). let p : Outcome = record { rows = o.rows; fault = x } in p) none in
    (o.rows, e, subst (λ (l : List Instr). RulesBehind f initial fde begin l o.rows) read.0 (gives_behind f initial fde begin o.rows e h listed le))
