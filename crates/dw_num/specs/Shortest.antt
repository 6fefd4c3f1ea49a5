-- The shortest LEB128 spelling of a number, computed: DWARF 5, 7.6. That it is the shortest, and the only one so short, are
-- laws.
use Rattle.std.specs.Prelude.{ℕ, ℤ, pos, negsuc, zero, suc, ◌+◌, ◌-◌, ◌/◌, ◌%◌, List, [], ◌∷◌, Bool, true, false, nat_lt, if◌then◌else◌}

-- the number in groups of seven bits, at most n + 1 of them
abbrev pub leb_of : ℕ → ℕ → List ℕ
leb_of zero v = v ∷ []
leb_of (suc n) v = if nat_lt v 128 then v ∷ [] else (128 + v % 128) ∷ leb_of n (v / 128)

-- the value bits of a byte, turned over or as they are
abbrev pub turned : Bool → ℕ → ℕ
turned true b = 127 - b % 128
turned false b = b % 128

-- the groups of a number, turned over or not, at most n + 1 of them
abbrev pub turned_leb : Bool → ℕ → ℕ → List ℕ
turned_leb t zero m = turned t m ∷ []
turned_leb t (suc n) m = if nat_lt m 64 then turned t m ∷ [] else (128 + turned t m) ∷ turned_leb t n (m / 128)

-- the one shortest spelling of an unsigned number below 2 ^ 64
unfoldable pub shortest_uleb : ℕ → List ℕ
shortest_uleb v = leb_of 9 v

-- the one shortest spelling of a signed number of 64 bits
unfoldable pub shortest_sleb : ℤ → List ℕ
shortest_sleb (pos m) = turned_leb false 9 m
shortest_sleb (negsuc m) = turned_leb true 9 m
