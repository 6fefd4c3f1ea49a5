-- Constants of a fixed width as two's complement.
use Rattle.std.specs.Int.{cast_signed}
use Rattle.dw_op.proofs.Words.{◌≡◌, ℕ, ◌^◌, ◌<◌, List, sym, ap, ◌∙◌, arith, ℤ, pos, negsuc, FitsSigned, Width, w8, byte_len, cast_unsigned, ints, nat_tests, Order, Fixed, FixedSigned, fixed_bytes}

-- the number of a width is the two's complement of its signed number
abbrev IsComplement : Width → ℕ → Type 0
IsComplement w n = (cast_unsigned w (cast_signed w n) ≡ n) × FitsSigned w (cast_signed w n)

complement : (w : Width) (n : ℕ) → n < 256 ^ byte_len w → IsComplement w n
complement w8 n lt = (grind (arith, nat_tests, ints), grind (arith, nat_tests, ints))
complement w n lt = (grind (arith, nat_tests, ints), grind (arith, nat_tests, ints))

pub signed_spelled : (w : Width) (order : Order) (n : ℕ) (b : List ℕ) → Fixed order (byte_len w) n b → FixedSigned order w (cast_signed w n) b
signed_spelled w order n b f = let c = complement w n f.fits in record { bytes = f.bytes ∙ ap (λ (k : ℕ). fixed_bytes order (byte_len w) k) (sym c.0); fits = c.1 }

-- and back
abbrev IsBack : Width → ℤ → Type 0
IsBack w z = (cast_signed w (cast_unsigned w z) ≡ z) × (cast_unsigned w z < 256 ^ byte_len w)

pub back : (w : Width) (z : ℤ) → FitsSigned w z → IsBack w z
back w8 (pos k) h = (grind (arith, nat_tests, ints), omega (arith, ints))
back w8 (negsuc k) h = (grind (arith, nat_tests, ints), omega (arith, ints))
back w (pos k) h = (grind (arith, nat_tests, ints), omega (arith, ints))
back w (negsuc k) h = (grind (arith, nat_tests, ints), omega (arith, ints))
