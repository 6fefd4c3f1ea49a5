-- Numbers of a fixed width, and unit lengths: DWARF 5, 7.4.
use Rattle.std.specs.{Prelude.{◌≡◌, ◌⊎◌, ℕ, ◌<◌, ◌^◌, List, ◌++◌, ℤ, FitsSigned}, Int.{Width, cast_unsigned, byte_len}}
use Rattle.byteorder.specs.Endian.{big_bytes, little_bytes, big_number, little_number}
use Rattle.dw_num.specs.{Target.byte_count, declared.target.Form.Form, declared.target.Form.TheVariants.{Dwarf32, Dwarf64}}
use Rattle.dw_num.specs.declared.target.{Order.Order, Order.TheVariants.{Little, Big}, Target.Target, UnitLength.UnitLength}

-- the n bytes of the number v
abbrev pub fixed_bytes : Order → ℕ → ℕ → List ℕ
fixed_bytes Little n v = little_bytes n v
fixed_bytes Big n v = big_bytes n v

-- the number that the first n bytes spell
abbrev pub fixed_number : Order → ℕ → List ℕ → ℕ
fixed_number Little n bytes = little_number n bytes
fixed_number Big n bytes = big_number n bytes

-- the widths that a number may have
abbrev pub IsWidth : ℕ → Type 0
IsWidth n = (n ≡ 1) ⊎ ((n ≡ 2) ⊎ ((n ≡ 4) ⊎ (n ≡ 8)))

-- b is the n bytes of v
pub record Fixed (order : Order) (n v : ℕ) (b : List ℕ) : Type 0 where
  pub bytes : b ≡ fixed_bytes order n v
  pub fits : v < 256 ^ n

-- b is the two's complement of the signed number z, as wide as w
pub record FixedSigned (order : Order) (w : Width) (z : ℤ) (b : List ℕ) : Type 0 where
  pub bytes : b ≡ fixed_bytes order (byte_len w) (cast_unsigned w z)
  pub fits : FitsSigned w z

-- b is an address of the target
abbrev pub Address : Target → ℕ → List ℕ → Type 0
Address target a b = Fixed target.order (byte_count target.size) a b

-- the spelling of a length
abbrev pub length_bytes : Order → Form → ℕ → List ℕ
length_bytes order Dwarf32 n = fixed_bytes order 4 n
length_bytes order Dwarf64 n = fixed_bytes order 4 0xffffffff ++ fixed_bytes order 8 n

-- the lengths that have a spelling
abbrev pub LengthFits : Form → ℕ → Type 0
LengthFits Dwarf32 n = n < 0xfffffff0
LengthFits Dwarf64 n = n < 2 ^ 64

-- b spells the length u
pub record SpellsLength (order : Order) (u : UnitLength) (b : List ℕ) : Type 0 where
  pub bytes : b ≡ length_bytes order u.form u.length
  pub fits : LengthFits u.form u.length
