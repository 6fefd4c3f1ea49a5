-- Reading from the front of an input, with the fault of what can't be read.
use Rattle.std.specs.Prelude.{◌≡◌, ℕ, ◌+◌, ◌^◌, List, [], ◌∷◌, length, take, Option, Some, None, option_map}
use Rattle.std.specs.Prelude.{Result, Ok, Err, nat_lt, Bool, ℤ, pos, negsuc, drop, ◌==◌, if◌then◌else◌}
use Rattle.dw_num.specs.{Fixed.fixed_number, Input.{Input, behind}, Leb.{groups, signed_groups}, Target.byte_count}
use Rattle.dw_num.specs.declared.refusal.{Code.Code, Code.TheVariants.{Truncated, ReservedLength, NumberTooLarge, RegisterTooLarge}, Refusal.Refusal}
use Rattle.dw_num.specs.declared.target.{Form.TheVariants.{Dwarf32, Dwarf64}, UnitLength.UnitLength}

-- what reading a value gives: the value and the input behind it
abbrev pub Read : Type 0 → Type 0
Read A = Result (A × Input) Refusal

infixl 10 ◌>>=◌
abbrev pub ◌>>=◌ : {A B : Type 0} → Result A Refusal → (A → Result B Refusal) → Result B Refusal
(Ok x) >>= f = f x
(Err e) >>= f = Err e

abbrev pub fault : {A : Type 0} → Code → ℕ → Result A Refusal
fault code at = Err (record { code = code; at = at })

-- a reader of the input old answered as reading says, and left new: behind what it read, or as it was
abbrev pub Reads : {X Y : Type 0} → (X → Y) → Result X Refusal → Input → Read Y → Input → Type 0
Reads view (Ok x) old read new = read ≡ Ok (view x, new)
Reads view (Err e) old read new = (read ≡ Err e) × (new ≡ old)

-- a number of n bytes
unfoldable pub fixed_at : ℕ → Input → Read ℕ
fixed_at n i = if nat_lt (length i.bytes) n then fault Truncated i.at else Ok (fixed_number i.target.order n i.bytes, behind n i)

-- n bytes
unfoldable pub take_at : ℕ → Input → Read (List ℕ)
take_at n i = if nat_lt (length i.bytes) n then fault Truncated i.at else Ok (take n i.bytes, behind n i)

-- how many bytes the LEB at the front has: up to the first without a top bit
abbrev pub leb_len : List ℕ → Option ℕ
leb_len [] = None
leb_len (b ∷ bs) = if nat_lt b 128 then Some 1 else option_map (λ n. 1 + n) (leb_len bs)

abbrev pub uleb_of : Option ℕ → Input → Read ℕ
uleb_of None i = fault Truncated i.at
uleb_of (Some n) i = if nat_lt (groups (take n i.bytes)) (2 ^ 64) then Ok (groups (take n i.bytes), behind n i) else fault NumberTooLarge i.at

unfoldable pub uleb_at : Input → Read ℕ
uleb_at i = uleb_of (leb_len i.bytes) i

-- an address
unfoldable pub address_at : Input → Read ℕ
address_at i = fixed_at (byte_count i.target.size) i

-- the eight bytes of a length behind the four that announce them
abbrev pub long_length_at : Input → Read UnitLength
long_length_at i = if nat_lt (length i.bytes) 12 then fault Truncated i.at else Ok (record { form = Dwarf64; length = fixed_number i.target.order 8 (drop 4 i.bytes) }, behind 12 i)

abbrev pub length_of : ℕ → Input → Read UnitLength
length_of n i = if nat_lt n 0xfffffff0 then Ok (record { form = Dwarf32; length = n }, behind 4 i) else if n == 0xffffffff then long_length_at i else fault ReservedLength i.at

-- a unit length
unfoldable pub unit_length_at : Input → Read UnitLength
unit_length_at i = if nat_lt (length i.bytes) 4 then fault Truncated i.at else length_of (fixed_number i.target.order 4 i.bytes) i

-- whether 64 signed bits hold a number
abbrev pub fits_signed : ℤ → Bool
fits_signed (pos n) = nat_lt n (2 ^ 63)
fits_signed (negsuc n) = nat_lt n (2 ^ 63)

abbrev pub sleb_of : Option ℕ → Input → Read ℤ
sleb_of None i = fault Truncated i.at
sleb_of (Some n) i = if fits_signed (signed_groups (take n i.bytes)) then Ok (signed_groups (take n i.bytes), behind n i) else fault NumberTooLarge i.at

-- a signed LEB
unfoldable pub sleb_at : Input → Read ℤ
sleb_at i = sleb_of (leb_len i.bytes) i

-- a number that names a register
abbrev pub register_of : ℕ → ℕ × Input → Read ℕ
register_of at r = if nat_lt r.0 65536 then Ok r else fault RegisterTooLarge at

-- a register
unfoldable pub register_at : Input → Read ℕ
register_at i = uleb_at i >>= register_of i.at
