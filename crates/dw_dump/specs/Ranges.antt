-- Ranges of memory, with their bytes in one list.
use Rattle.std.specs.Prelude.{ℕ, ◌+◌, ◌-◌, ◌&&◌, nat_le, nat_lt, Bool, if◌then◌else◌, List, [], ◌∷◌, Option, None, slice_get}
use Rattle.dw_dump.specs.declared.memory.Range.{Range}

-- the first address past a range
abbrev pub end_of : Range → ℕ
end_of r = r.address + r.len

abbrev pub covers : ℕ → Range → Bool
covers a r = nat_le r.address a && nat_lt a (end_of r)

-- ranges and the bytes that they take
pub record Held : Type 0 where
  pub ranges : List Range
  pub bytes : List ℕ

-- the byte of a range at an address that it covers
abbrev pub byte_of : List ℕ → ℕ → Range → Option ℕ
byte_of bytes a r = slice_get bytes (r.place + (a - r.address))

-- the byte of the first range that covers an address
abbrev pub byte_among : List ℕ → ℕ → List Range → Option ℕ
byte_among bytes a [] = None
byte_among bytes a (r ∷ rs) = if covers a r then byte_of bytes a r else byte_among bytes a rs

-- the byte at an address
abbrev pub byte_in : Held → ℕ → Option ℕ
byte_in held a = byte_among held.bytes a held.ranges
