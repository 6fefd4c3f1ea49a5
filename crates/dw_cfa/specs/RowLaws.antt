-- What is so of the rows that programs give: DWARF 5, 6.4.3. The bytes are bytes, and an FDE begins in the address space.
use Rattle.std.specs.Prelude.{◌≡◌, ℕ, ◌≤◌, List, Option, Some, None, Result, ◌↔◌, ℤ}
use Rattle.dw_num.specs.{Input.{Input, AreBytes}, Target.address_limit, declared.refusal.Refusal.Refusal}
use Rattle.dw_row.specs.Rows.{Rules, AreSpecified, rule}
use Rattle.dw_cfa.specs.{Behind.{GivesBehind, HoldsBehind, Leaves, LeavesTo, RunsBehind}, Faults.{FdeFault, RunFault}, Gives.{Gives, RunsTo}}
use Rattle.dw_cfa.specs.{InitialRules.{initial_cfa, HoldsAfter}, InstrSpells.ProgramSpells, Kept.{CieKept, FdeKept}, Location.Counts}
use Rattle.dw_cfa.specs.{Opening.{cfa_with, first_row, row_with}, RuleAt.{last_at, NeverFalls}, RulesBehind.RulesBehind, Runs.Outcome}
use Rattle.dw_cfa.specs.declared.{execution.LocatedRow.LocatedRow, instr.{Factors.Factors, Instr.Instr}}

-- of two programs, in their bytes and from this begin on
abbrev pub OfRuns : (Factors → Input → Input → ℕ → Type 0) → Type 0
OfRuns Law = (f : Factors) (cie fde : Input) (begin : ℕ) → AreBytes cie.bytes → AreBytes fde.bytes → begin ≤ address_limit fde.target.size → Law f cie fde begin

-- two programs have one outcome
abbrev pub OneRun : Type 0
OneRun = OfRuns (λ f cie fde begin. (o : Outcome) × RunsTo f cie fde begin o × ((other : Outcome) → RunsTo f cie fde begin other → other ≡ o))

-- it is refused exactly with the first fault
abbrev pub RefusedWhereFault : Type 0
RefusedWhereFault = OfRuns (λ f cie fde begin. (o : Outcome) → RunsTo f cie fde begin o → (r : Refusal) → (o.fault ≡ Some r) ↔ RunFault f cie fde begin r)

-- two programs give rows exactly where both keep their rules
abbrev pub RowsWhereKept : Type 0
RowsWhereKept = OfRuns (λ f cie fde begin. (cie_instrs fde_instrs : List Instr) → ProgramSpells cie.target f cie_instrs cie.bytes → ProgramSpells fde.target f fde_instrs fde.bytes
    → ((rows : List LocatedRow) × Gives f cie fde begin rows) ↔ (CieKept cie_instrs × FdeKept (address_limit fde.target.size) begin (initial_cfa cie_instrs) fde_instrs))

-- locations of rows never fall
abbrev pub NoneFalls : Type 0
NoneFalls = OfRuns (λ f cie fde begin. (rows : List LocatedRow) → Gives f cie fde begin rows → NeverFalls begin rows)

-- the last row that starts at or below an address holds the rules at that address
abbrev pub LastHolds : Type 0
LastHolds = OfRuns (λ f cie fde begin. (rows : List LocatedRow) → Gives f cie fde begin rows
    → (cie_instrs fde_instrs : List Instr) → ProgramSpells cie.target f cie_instrs cie.bytes → ProgramSpells fde.target f fde_instrs fde.bytes
    → (a k : ℕ) → begin ≤ a → Counts begin fde_instrs a k
    → (row : Rules) × (last_at a rows ≡ Some row) × HoldsAfter cie_instrs fde_instrs k row)

-- and that is one row
abbrev pub OneHolds : Type 0
OneHolds = (cie fde : List Instr) (k : ℕ) (row other : Rules) → HoldsAfter cie fde k row → HoldsAfter cie fde k other → row ≡ other

-- rows that list each register once, and have the same rule in every column, are one
abbrev pub OneListing : Type 0
OneListing = (row other : Rules) → AreSpecified 0 row.registers → AreSpecified 0 other.registers → row.cfa ≡ other.cfa → ((r : ℕ) → rule row r ≡ rule other r) → row ≡ other

-- at each address from the begin on some first instructions count, and their number is one
abbrev pub OneCount : Type 0
OneCount = (begin : ℕ) (instrs : List Instr) (a : ℕ) → begin ≤ a → (k : ℕ) × Counts begin instrs a k × ((other : ℕ) → Counts begin instrs a other → other ≡ k)

-- where a program's first instructions tell the row at the begin, that has the initial rules there, with the CFA's offset where they give one
abbrev pub FirstRowIsBegin : Type 0
FirstRowIsBegin = (initial : Rules) (begin : ℕ) (instrs : List Instr) (offset : Option ℤ) (k : ℕ) (row : Rules) → first_row instrs ≡ row_with offset → Counts begin instrs begin k → HoldsBehind initial instrs k row
    → (row.cfa ≡ cfa_with offset initial.cfa) × ((r : ℕ) → rule row r ≡ rule initial r)

-- a CIE's program leaves one row, or has one first fault
abbrev pub OneInitial : Type 0
OneInitial = (f : Factors) (cie : Input) → AreBytes cie.bytes → (x : Result Rules Refusal) × LeavesTo f cie x × ((other : Result Rules Refusal) → LeavesTo f cie other → other ≡ x)

-- and leaves a row where it keeps its rules
abbrev pub LeavesWhereKept : Type 0
LeavesWhereKept = (f : Factors) (cie : Input) (instrs : List Instr) → AreBytes cie.bytes → ProgramSpells cie.target f instrs cie.bytes → CieKept instrs → (row : Rules) × Leaves f cie instrs row

-- of an FDE's program behind an initial row that lists each register once
abbrev pub OfBehind : (Factors → Rules → Input → ℕ → Type 0) → Type 0
OfBehind Law = (f : Factors) (initial : Rules) (fde : Input) (begin : ℕ) → AreBytes fde.bytes → AreSpecified 0 initial.registers → begin ≤ address_limit fde.target.size → Law f initial fde begin

-- it has one outcome behind an initial row
abbrev pub OneBehind : Type 0
OneBehind = OfBehind (λ f initial fde begin. (o : Outcome) × RunsBehind f initial fde begin o × ((other : Outcome) → RunsBehind f initial fde begin other → other ≡ o))

-- it gives all rows where it keeps its rules, and these hold the rules at each address
abbrev pub GivesWhereKept : Type 0
GivesWhereKept = OfBehind (λ f initial fde begin. (instrs : List Instr) → ProgramSpells fde.target f instrs fde.bytes → FdeKept (address_limit fde.target.size) begin initial.cfa instrs
    → (rows : List LocatedRow) × GivesBehind f initial fde begin rows × RulesBehind f initial fde begin instrs rows)

-- and so do the rows of any outcome without a fault
abbrev pub RulesWhereGiven : Type 0
RulesWhereGiven = OfBehind (λ f initial fde begin. (o : Outcome) → RunsBehind f initial fde begin o → o.fault ≡ None → (instrs : List Instr) × RulesBehind f initial fde begin instrs o.rows)

-- it is refused exactly with the first fault
abbrev pub BehindWhereFault : Type 0
BehindWhereFault = OfBehind (λ f initial fde begin. (o : Outcome) → RunsBehind f initial fde begin o → (r : Refusal) → (o.fault ≡ Some r) ↔ FdeFault f initial.cfa fde begin r)
