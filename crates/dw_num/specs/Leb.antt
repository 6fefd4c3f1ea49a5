-- LEB128 numbers, by the whole list of their bytes: DWARF 5, 7.6.
use Rattle.std.specs.Prelude.{◌≡◌, ℕ, suc, ◌+◌, ◌*◌, ◌%◌, ◌<◌, ◌≤◌, ◌^◌, List, [], ◌∷◌, length, Bool, nat_le, ℤ, pos, ◌-ℤ◌, FitsSigned, if◌then◌else◌}
use Rattle.std.specs.Int.{w64}

-- every byte but the last has its top bit set
abbrev pub IsLeb : List ℕ → Type 0
IsLeb [] = ⊥
IsLeb (b ∷ []) = b < 128
IsLeb (b ∷ c ∷ bs) = (128 ≤ b) × (b < 256) × IsLeb (c ∷ bs)

-- the sum over i of the low seven bits of byte i, times 128 ^ (k + i)
abbrev pub groups_from : ℕ → List ℕ → ℕ
groups_from k [] = 0
groups_from k (b ∷ bs) = b % 128 * 128 ^ k + groups_from (suc k) bs

-- the sum over i of the low seven bits of byte i, times 128 ^ i
abbrev pub groups : List ℕ → ℕ
groups bytes = groups_from 0 bytes

-- b spells the unsigned number v
pub record Uleb (v : ℕ) (b : List ℕ) : Type 0 where
  pub shape : IsLeb b
  pub value : v ≡ groups b
  pub fits : v < 2 ^ 64

-- the last byte
abbrev pub last_byte : List ℕ → ℕ
last_byte [] = 0
last_byte (b ∷ []) = b
last_byte (b ∷ c ∷ bs) = last_byte (c ∷ bs)

-- whether bit 0x40 of the last byte is set
abbrev pub is_negative : List ℕ → Bool
is_negative bytes = nat_le 64 (last_byte bytes % 128)

-- the same sum, less 2 ^ (7 * k) where that bit of the last of k bytes is set
abbrev pub signed_groups : List ℕ → ℤ
signed_groups bytes = if is_negative bytes then pos (groups bytes) -ℤ pos (2 ^ (7 * length bytes)) else pos (groups bytes)

-- b spells the signed number v
pub record Sleb (v : ℤ) (b : List ℕ) : Type 0 where
  pub shape : IsLeb b
  pub value : v ≡ signed_groups b
  pub fits : FitsSigned w64 v

-- b spells the number of a register, 0 to 65,535
abbrev pub Register : ℕ → List ℕ → Type 0
Register r b = Uleb r b × (r < 65536)
