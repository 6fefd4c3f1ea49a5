-- What the lines of a dump tell.
use Rattle.std.specs.Prelude.{ℕ, ◌+◌, ◌-◌, ◌<◌, ◌≤◌, ◌==◌, nat_le, if◌then◌else◌, List, [], ◌∷◌, length, Option, Some, None, is_some, slice_get, count_by, ⊤}
use Rattle.std.specs.Option.{option_or}

-- what a line says
pub data Statement : Type 0 where
  nothing : Statement
  counter_is : ℕ → Statement
  register_is : ℕ → ℕ → Statement
  memory_is : ℕ → List ℕ → Statement

-- what has a value: the program counter, a register, a byte of memory
pub data DumpItem : Type 0 where
  counter : DumpItem
  register : ℕ → DumpItem
  byte : ℕ → DumpItem

-- the value that a statement tells of an item
abbrev pub told : Statement → DumpItem → Option ℕ
told (counter_is v) counter = Some v
told (register_is q v) (register r) = if r == q then Some v else None
told (memory_is start bytes) (byte a) = if nat_le start a then slice_get bytes (a - start) else None
told s item = None

-- the value that statements tell of an item
abbrev pub given : List Statement → DumpItem → Option ℕ
given [] item = None
given (s ∷ ss) item = option_or (told s item) (given ss item)

-- how many statements tell a value of an item
abbrev pub times : List Statement → DumpItem → ℕ
times ss item = count_by (λ s. is_some (told s item)) ss

-- whether its values are addresses: they are below the limit, and no byte stands past it
abbrev pub Fits : ℕ → Statement → Type 0
Fits limit nothing = ⊤
Fits limit (counter_is v) = v < limit
Fits limit (register_is r v) = v < limit
Fits limit (memory_is start bytes) = start + length bytes ≤ limit
