-- One turn of the loop that runs an FDE's program.
use Rattle.std.specs.Prelude.{◌≡◌, ℕ, ◌≤◌, ◌^◌, Bool, true, false, [], Some, None, Ok, Err}
use Rattle.dw_num.specs.{Front.Read, Input.Input, declared.refusal.Refusal.Refusal}
use Rattle.dw_row.specs.Rows.{Rules, blank}
use Rattle.dw_cfa.specs.{Location.moves_location, Runs.fails, declared.{instr.{Factors.Factors, Instr.Instr}, machine.{End.End, Machine.Machine}}}
use Rattle.dw_cfa.specs.Inner.{Machine.program_fault, Runs.{initial_row, placed, rows_left, RanTo, WroteTo}, Steps.{state_of, IsAfter}}
use Rattle.dw_cfa.specs.declared.machine.End.TheVariants as ends

abbrev pub IsWithinLimit : Machine → Type 0
IsWithinLimit m = m.location ≤ m.limit

-- what no instruction changes, whether it is refused or not
abbrev pub Stays : Machine → Machine → Type 0
Stays m m' = (m'.initial ≡ m.initial) × (m'.states.kept ≡ m.states.kept)

-- an instruction of a place was run by the machine, or refused
abbrev pub Ran : Bool → Instr → ℕ → Machine → End → Refusal → Machine → Type 0
Ran cie i at m ends.On fault m' = (moves_location i ≡ false) × IsAfter cie m i m'
Ran cie i at m ends.Moved fault m' = (moves_location i ≡ true) × IsAfter cie m i m'
Ran cie i at m ends.Refused fault m' = (fault.at ≡ at) × (program_fault cie m.limit i (state_of m) ≡ Some fault.code)
Ran cie i at m ends.OutOfMemory fault m' = Unit {0}

abbrev pub Did : Bool → Instr → ℕ → Machine → End → Refusal → Machine → Type 0
Did cie i at m end fault m' = Ran cie i at m end fault m' × Stays m m'

-- what is done with an instruction that is read, whatever that is, or the refusal of one that is not
abbrev pub Taken : {K : Type 0} → (K → Instr → ℕ → End → Refusal → K → Type 0) → Read Instr → ℕ → K → End → Refusal → Input → K → Type 0
Taken takes (Ok x) at k end fault j k' = (x.1 ≡ j) × takes k x.0 at end fault k'
Taken takes (Err r) at k ends.Refused fault j k' = (r ≡ fault) × (k' ≡ k)
Taken takes (Err r) at k end fault j k' = ⊥

-- what is done with it is to run it
abbrev pub Does : Bool → {K : Type 0} → (K → Machine) → (K → Instr → ℕ → End → Refusal → K → Type 0) → Type 0
Does cie {K} machine takes = (k : K) (i : Instr) (at : ℕ) (end : End) (fault : Refusal) (k' : K) → takes k i at end fault k' → Did cie i at (machine k) end fault (machine k')

-- the first instruction that is left was run, or its refusal answered
abbrev pub Turned : Factors → Input → Machine → End → Refusal → Input → Machine → Type 0
Turned f i m ends.On fault j m' = RanTo f i m false j m'
Turned f i m ends.Moved fault j m' = RanTo f i m true j m'
Turned f i m ends.Refused fault j m' = rows_left f i m ≡ fails fault
Turned f i m ends.OutOfMemory fault j m' = Unit {0}

-- a CIE's program gives rules to one row: no other is remembered, and the location is 0, within any limit
abbrev pub cie_machine : Rules → Machine
cie_machine row = record { initial = blank; states = record { row = row; stack = []; first = None; kept = blank }; location = 0; limit = 2 ^ 64 }

-- the same for an instruction of a CIE's program, whose rule was written into the row
abbrev pub Entered : Factors → Input → Rules → End → Refusal → Input → Rules → Type 0
Entered f i row ends.Refused fault j row' = initial_row (placed f i) row ≡ Err fault
Entered f i row ends.OutOfMemory fault j row' = Unit {0}
Entered f i row end fault j row' = WroteTo f i row j row'
