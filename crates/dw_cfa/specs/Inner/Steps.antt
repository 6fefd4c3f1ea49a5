-- How the code runs an instruction of an FDE's program.
use Rattle.std.specs.Prelude.{◌≡◌, ℕ, ◌≤◌, Bool, None}
use Rattle.dw_cfa.specs.declared.{instr.Instr.Instr, instr.Instr.TheVariants.SetLoc, machine.Machine.Machine}
use Rattle.dw_cfa.specs.Inner.Machine.{State, after, program_fault}

abbrev pub state_of : Machine → State
state_of m = record { row = m.states.row; stack = m.states.stack; location = m.location }

-- an address is within the limit
abbrev pub InLimit : ℕ → Instr → Type 0
InLimit limit (SetLoc a) = a ≤ limit
InLimit limit i = Unit {0}

-- the machine is behind an instruction
pub record IsAfter (cie : Bool) (old : Machine) (i : Instr) (new : Machine) : Type 0 where
  pub allowed : program_fault cie old.limit i (state_of old) ≡ None
  pub state : state_of new ≡ after old.initial i (state_of old)
  pub initial : new.initial ≡ old.initial
  pub limit : new.limit ≡ old.limit
  pub first : new.states.first ≡ old.states.first
  pub within : new.location ≤ new.limit
