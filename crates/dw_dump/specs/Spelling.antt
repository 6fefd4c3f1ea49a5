-- How lines are spelled.
use Rattle.std.specs.Prelude.{◌≡◌, ◌≢◌, ◌⊎◌, ℕ, ◌<◌, ◌≤◌, List, [], ◌++◌, length, slice_index, codes, Some, Ok}
use Rattle.hex.specs.Hex.{decode_of}
use Rattle.dw_num.specs.Digits.{number_behind}
use Rattle.dw_dump.specs.Statement.{Statement, nothing, counter_is, register_is, memory_is}

-- 1 to 16 hexadecimal digits of the number v
pub record Hexadecimal (v : ℕ) (text : List ℕ) : Type 0 where
  pub some : 0 < length text
  pub most : length text ≤ 16
  pub number : number_behind 16 0 text ≡ Some v

-- the number r of a register, 0 to 65,535, in decimal without leading zeros
pub record RegisterName (r : ℕ) (text : List ℕ) : Type 0 where
  pub some : 0 < length text
  pub most : length text ≤ 5
  pub number : number_behind 10 0 text ≡ Some r
  pub plain : 1 < length text → slice_index text 0 ≢ 48
  pub small : r < 65536

-- an even number of hexadecimal digits, at least two, each pair a byte
pub record HexPairs (bytes text : List ℕ) : Type 0 where
  pub some : 0 < length bytes
  pub pairs : decode_of text ≡ Ok bytes

-- `pc 0x<hex>`
abbrev pub CounterLine : ℕ → List ℕ → Type 0
CounterLine v line = (digits : List ℕ) × Hexadecimal v digits × (line ≡ codes "pc 0x" ++ digits)

-- `r<n> 0x<hex>`
abbrev pub RegisterLine : ℕ → ℕ → List ℕ → Type 0
RegisterLine r v line = (name digits : List ℕ) × RegisterName r name × Hexadecimal v digits × (line ≡ codes "r" ++ (name ++ (codes " 0x" ++ digits)))

-- `mem 0x<hex> <bytes>`
abbrev pub MemoryLine : ℕ → List ℕ → List ℕ → Type 0
MemoryLine start bytes line = (digits pairs : List ℕ) × Hexadecimal start digits × HexPairs bytes pairs × (line ≡ codes "mem 0x" ++ (digits ++ (codes " " ++ pairs)))

-- a line without characters, or a comment
abbrev pub SkippedLine : List ℕ → Type 0
SkippedLine line = (line ≡ []) ⊎ ((text : List ℕ) × (line ≡ codes "#" ++ text))

-- the line says this
abbrev pub LineSays : List ℕ → Statement → Type 0
LineSays line nothing = SkippedLine line
LineSays line (counter_is v) = CounterLine v line
LineSays line (register_is r v) = RegisterLine r v line
LineSays line (memory_is start bytes) = MemoryLine start bytes line
