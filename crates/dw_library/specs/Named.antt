-- What a caller in C is told of the numbers of statuses, refusals and faults.
use Rattle.std.specs.Prelude.{◌≡◌, ◌⊎◌, ◌+◌, ◌<◌, ◌≤◌, ℕ, List, ◌∷◌, ◌++◌, length, drop, codes}
use Rattle.dw_num.specs.Codes.{code_entry}
use Rattle.dw_library.specs.declared.names.{Status.Status, Status.TheVariants.{Ok, Refused, OutOfMemory, BadArgument, TooShort}}
use Rattle.dw_library.specs.declared.names.Status.TheVariants.{NoFde, NoValue, Unreadable, NoRegister, Device, BadIndex}

-- a text and a zero byte at the front of a buffer, where both fit; else the buffer stays
abbrev pub HoldsText : List ℕ → List ℕ → List ℕ → Type 0
HoldsText text old new =
    ((length text < length old) × (new ≡ text ++ (0 ∷ drop (length text + 1) old)))
    ⊎ ((length old ≤ length text) × (new ≡ old))

-- the length of the name of what has a number, by a table of numbers and names, or 0 where nothing has it
abbrev pub IsNamedBy : {C : Type 0} → (C → ℕ × List ℕ) → ℕ → List ℕ → List ℕ → ℕ → Type 0
IsNamedBy {C} entry number old new count =
    ((c : C) × (number ≡ (entry c).0) × (count ≡ length (entry c).1) × HoldsText (entry c).1 old new)
    ⊎ (((c : C) → number ≡ (entry c).0 → ⊥) × (count ≡ 0) × (new ≡ old))

-- number and name of each status
abbrev pub status_entry : Status → ℕ × List ℕ
status_entry Ok = (0, codes "Ok")
status_entry Refused = (1, codes "Refused")
status_entry OutOfMemory = (2, codes "OutOfMemory")
status_entry BadArgument = (3, codes "BadArgument")
status_entry TooShort = (4, codes "TooShort")
status_entry NoFde = (5, codes "NoFde")
status_entry NoValue = (6, codes "NoValue")
status_entry Unreadable = (7, codes "Unreadable")
status_entry NoRegister = (8, codes "NoRegister")
status_entry Device = (9, codes "Device")
status_entry BadIndex = (10, codes "BadIndex")

-- the length of the name of a code, or 0 where there is no such code
abbrev pub IsNamed : ℕ → List ℕ → List ℕ → ℕ → Type 0
IsNamed number old new count = IsNamedBy code_entry number old new count
