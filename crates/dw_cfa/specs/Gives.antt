-- What two programs give: DWARF 5, 6.4.3. The FDE's program begins with the row that the CIE's program leaves.
use Rattle.std.specs.Prelude.{◌≡◌, ◌⊎◌, ℕ, List}
use Rattle.dw_num.specs.{Input.Input, declared.refusal.Refusal.Refusal}
use Rattle.dw_row.specs.Rows.{Rules}
use Rattle.dw_cfa.specs.{Behind.{Leaves, GivesBehind, RunsBehind}, Faults.CieFault, Runs.{Outcome, fails}}
use Rattle.dw_cfa.specs.declared.{execution.LocatedRow.LocatedRow, instr.{Factors.Factors, Instr.Instr}}

-- two programs that keep their rules, and the rows that they give
abbrev pub Gives : Factors → Input → Input → ℕ → List LocatedRow → Type 0
Gives f cie fde begin rows = (instrs : List Instr) × (initial : Rules) × Leaves f cie instrs initial × GivesBehind f initial fde begin rows

-- the rows of two programs; or the first fault, and the rows before that, which are none where it is the CIE's program's
abbrev pub RunsTo : Factors → Input → Input → ℕ → Outcome → Type 0
RunsTo f cie fde begin o =
    ((r : Refusal) × CieFault f cie r × (o ≡ fails r)) ⊎ ((instrs : List Instr) × (initial : Rules) × Leaves f cie instrs initial × RunsBehind f initial fde begin o)
