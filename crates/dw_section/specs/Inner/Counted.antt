-- How the code counts the rows that programs start.
use Rattle.std.specs.Prelude.{◌≡◌, ℕ, ◌+◌, Bool, false, cond, List, [], ◌∷◌, Result, Ok, Err}
use Rattle.dw_num.specs.declared.{refusal.Refusal.Refusal, target.Target.Target}
use Rattle.dw_cfa.specs.{InstrSpells.ProgramSpells, Location.{moves_location, row_starts}, declared.instr.Instr.Instr}
use Rattle.dw_section.specs.declared.listed_fde.FoundFde.{FoundFde}

abbrev pub starts_row : Result Instr Refusal → Bool
starts_row (Ok instr) = moves_location instr
starts_row (Err r) = false

abbrev pub moves_in : List (Result Instr Refusal) → ℕ
moves_in [] = 0
moves_in (x ∷ xs) = cond (starts_row x) 1 0 + moves_in xs

-- the bytes of an FDE's program are instructions
abbrev pub IsProgram : Target → FoundFde → Type 0
IsProgram target e = (instrs : List Instr) × ProgramSpells target e.cie.factors instrs e.own.program.bytes.now

-- they start n rows
abbrev pub StartsOf : Target → FoundFde → ℕ → Type 0
StartsOf target e n = (instrs : List Instr) → ProgramSpells target e.cie.factors instrs e.own.program.bytes.now → n ≡ row_starts instrs
