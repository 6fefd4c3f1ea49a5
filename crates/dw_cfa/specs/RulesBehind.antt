-- The rules that the rows of an FDE's program hold: DWARF 5, 6.4.3.
use Rattle.std.specs.Prelude.{◌≡◌, ℕ, ◌≤◌, List, length, Some}
use Rattle.dw_num.specs.{Input.Input, Target.address_limit}
use Rattle.dw_row.specs.Rows.{Rules}
use Rattle.dw_cfa.specs.{Behind.HoldsBehind, InstrSpells.ProgramSpells, Kept.FdeKept, Location.{Counts, row_starts}, RuleAt.{last_at, NeverFalls}}
use Rattle.dw_cfa.specs.declared.{execution.LocatedRow.LocatedRow, instr.{Factors.Factors, Instr.Instr}}

-- a program of an FDE that keeps its rules, and rows that hold the rules at each address
pub record RulesBehind (f : Factors) (initial : Rules) (fde : Input) (begin : ℕ) (instrs : List Instr) (rows : List LocatedRow) : Type 0 where
  pub program : ProgramSpells fde.target f instrs fde.bytes
  pub kept : FdeKept (address_limit fde.target.size) begin initial.cfa instrs
  pub starts : length rows ≡ row_starts instrs
  pub never_falls : NeverFalls begin rows
  -- the last row that starts at or below an address holds the rules at that address
  pub holds : (a k : ℕ) → begin ≤ a → Counts begin instrs a k → (row : Rules) × (last_at a rows ≡ Some row) × HoldsBehind initial instrs k row
