-- What the programs of a CIE and of an FDE give, by the run that the code keeps to.
use Rattle.std.specs.Prelude.{◌≡◌, ℕ, ◌≤◌, List, None, Ok}
use Rattle.dw_num.specs.{Input.{Input, AreBytes}, Target.address_limit}
use Rattle.dw_row.specs.Rows.{Rules, AreSpecified, blank}
use Rattle.dw_cfa.specs.{Behind.Leaves, InstrSpells.ProgramSpells, Kept.{CieKept, FdeKept}, RulesBehind.RulesBehind}
use Rattle.dw_cfa.specs.{declared.{execution.LocatedRow.LocatedRow, instr.{Factors.Factors, Instr.Instr}}, Inner.Runs.{placed, initial_row, rows_behind}}

-- a CIE's program that leaves a row is one that keeps its rules
abbrev pub InitialLeaves : Type 0
InitialLeaves = (f : Factors) (cie : Input) (row : Rules) → AreBytes cie.bytes → initial_row (placed f cie) blank ≡ Ok row → (instrs : List Instr) × Leaves f cie instrs row

-- and the other way round
abbrev pub LeavesInitial : Type 0
LeavesInitial = (f : Factors) (cie : Input) (instrs : List Instr) → AreBytes cie.bytes → ProgramSpells cie.target f instrs cie.bytes → CieKept instrs
    → (row : Rules) × (initial_row (placed f cie) blank ≡ Ok row) × Leaves f cie instrs row

-- an FDE's program that gives rows is one that keeps its rules
abbrev pub BehindGives : Type 0
BehindGives = (f : Factors) (initial : Rules) (fde : Input) (begin : ℕ) (rows : List LocatedRow) → AreBytes fde.bytes → AreSpecified 0 initial.registers → begin ≤ address_limit fde.target.size
    → rows_behind f initial fde begin ≡ record { rows = rows; fault = None } → (instrs : List Instr) × RulesBehind f initial fde begin instrs rows

-- and the other way round
abbrev pub GivesRows : Type 0
GivesRows = (f : Factors) (initial : Rules) (fde : Input) (begin : ℕ) (instrs : List Instr) → AreBytes fde.bytes → AreSpecified 0 initial.registers → begin ≤ address_limit fde.target.size
    → ProgramSpells fde.target f instrs fde.bytes → FdeKept (address_limit fde.target.size) begin initial.cfa instrs
    → (rows : List LocatedRow) × (rows_behind f initial fde begin ≡ record { rows = rows; fault = None }) × RulesBehind f initial fde begin instrs rows
