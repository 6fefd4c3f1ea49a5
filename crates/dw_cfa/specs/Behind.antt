-- The two halves of a run by themselves: the row that a CIE's program leaves, and the rows of an FDE's program behind it.
-- DWARF 5, 6.4.3. A row ends before each instruction that moves the location, and the last one behind the last
-- instruction. It starts at the location there, and holds the rules there.
use Rattle.std.specs.{Prelude.{◌≡◌, ℕ, suc, List, [], ◌∷◌, map, Option, Some, None, Result, Ok, Err, if◌then◌else◌}, List.AllZip}
use Rattle.dw_num.specs.{Input.Input, Target.address_limit, declared.refusal.Refusal.Refusal}
use Rattle.dw_row.specs.Rows.{Rules, AreSpecified, rule}
use Rattle.dw_cfa.specs.{Column.{cfa_after, rule_after}, Faults.{CieFault, FdeFaultBehind}, InitialRules.{initial_cfa, initial_rule}}
use Rattle.dw_cfa.specs.{InstrSpells.ProgramSpells, Kept.{CieKept, FdeKept}, Location.{location, moves_location}, Runs.Outcome}
use Rattle.dw_cfa.specs.declared.{execution.LocatedRow.LocatedRow, instr.{Factors.Factors, Instr.Instr}}

-- ---- a CIE's program

-- a program of a CIE that keeps its rules, and the row that it leaves
pub record Leaves (f : Factors) (cie : Input) (instrs : List Instr) (row : Rules) : Type 0 where
  pub program : ProgramSpells cie.target f instrs cie.bytes
  pub kept : CieKept instrs
  pub cfa : row.cfa ≡ initial_cfa instrs
  pub rules : (r : ℕ) → rule row r ≡ initial_rule instrs r
  pub listed : AreSpecified 0 row.registers

-- the row that it leaves, or its first fault
abbrev pub LeavesTo : Factors → Input → Result Rules Refusal → Type 0
LeavesTo f cie (Ok row) = (instrs : List Instr) × Leaves f cie instrs row
LeavesTo f cie (Err r) = CieFault f cie r

-- ---- an FDE's program

-- after how many instructions rows end: before each that moves the location, and then `last`, which is one row behind all of a
-- program that is run to its end, and none of one that is refused there
abbrev pub ends : List ℕ → List Instr → List ℕ
ends last [] = last
ends last (i ∷ instrs) = if moves_location i then 0 ∷ map suc (ends last instrs) else map suc (ends last instrs)

-- the row has in each column the rule after k instructions that begin with the initial row
pub record HoldsBehind (initial : Rules) (instrs : List Instr) (k : ℕ) (row : Rules) : Type 0 where
  pub cfa : row.cfa ≡ cfa_after initial.cfa instrs k
  pub rules : (r : ℕ) → rule row r ≡ rule_after (rule initial r) instrs r k
  pub listed : AreSpecified 0 row.registers

-- a row that ends after k instructions
pub record IsRowAfter (initial : Rules) (begin : ℕ) (instrs : List Instr) (k : ℕ) (row : LocatedRow) : Type 0 where
  pub location : row.location ≡ location begin instrs k
  pub holds : HoldsBehind initial instrs k row.row

-- a program of an FDE that keeps its rules, and the rows that it gives behind an initial row
pub record GivesBehind (f : Factors) (initial : Rules) (fde : Input) (begin : ℕ) (rows : List LocatedRow) : Type 0 where
  pub instrs : List Instr
  pub program : ProgramSpells fde.target f instrs fde.bytes
  pub kept : FdeKept (address_limit fde.target.size) begin initial.cfa instrs
  pub each : AllZip (IsRowAfter initial begin instrs) (ends (0 ∷ []) instrs) rows

-- one that is refused, and the rows before that
pub record GivesBefore (f : Factors) (initial : Rules) (fde : Input) (begin : ℕ) (r : Refusal) (rows : List LocatedRow) : Type 0 where
  pub instrs : List Instr
  pub fault : FdeFaultBehind f initial.cfa fde begin instrs r
  pub each : AllZip (IsRowAfter initial begin instrs) (ends [] instrs) rows

abbrev pub GivesUpTo : Factors → Rules → Input → ℕ → Option Refusal → List LocatedRow → Type 0
GivesUpTo f initial fde begin None rows = GivesBehind f initial fde begin rows
GivesUpTo f initial fde begin (Some r) rows = GivesBefore f initial fde begin r rows

-- all rows of a program, or its first fault and the rows before that
abbrev pub RunsBehind : Factors → Rules → Input → ℕ → Outcome → Type 0
RunsBehind f initial fde begin o = GivesUpTo f initial fde begin o.fault o.rows
