-- Products of operands and factors fit their types.
use Rattle.dw_cfa.proofs.Words.{◌≡◌, refl, ℕ, ◌*◌, ◌^◌, ◌<◌, ◌≤◌, ℤ, pos, negsuc, arith, ◌*ℤ◌, unsigned_abs, FitsSigned, w128, of_z, to_z, mul-le-mul, fits_signed_mul, to_z-of_z, w64}

abs_below : (z : ℤ) → FitsSigned w64 z → unsigned_abs z ≤ 9223372036854775808
abs_below (pos n) h = omega (arith, h)
abs_below (negsuc n) h = omega (arith, h)

product_fits : (operand factor : ℤ) → unsigned_abs operand < 2 ^ 64 → FitsSigned w64 factor → FitsSigned w128 (operand *ℤ factor)
product_fits operand factor small fits = fits_signed_mul w128 operand factor 18446744073709551615 9223372036854775808 (omega (arith, small)) (abs_below factor fits) (omega arith)

wide_fits : (factor : ℤ) → FitsSigned w64 factor → FitsSigned w128 factor
wide_fits (pos n) h = record { sfits = omega (arith, h) }
wide_fits (negsuc n) h = record { sfits = omega (arith, h) }

-- the product as the machine computes it
module _ (operand factor wide : ℤ) (here : FitsSigned w128 operand) (small : unsigned_abs operand < 2 ^ 64) (fits : FitsSigned w64 factor) (is : wide ≡ factor) where
  abbrev computed : ℤ
  computed = to_z w128 (of_z w128 operand) *ℤ to_z w128 (of_z w128 wide)

  computed_is : computed ≡ operand *ℤ factor
  computed_is = let b : to_z w128 (of_z w128 wide) ≡ factor = rw is (to_z-of_z w128 factor (wide_fits factor fits)) in rw (to_z-of_z w128 operand here, b) refl

  pub computed_fits : FitsSigned w128 computed
  computed_fits = rw computed_is (product_fits operand factor small fits)

  pub product_is : to_z w128 (of_z w128 computed) ≡ operand *ℤ factor
  product_is = rw computed_is (to_z-of_z w128 (operand *ℤ factor) (product_fits operand factor small fits))

pub distance_fits : (delta factor : ℕ) → delta < 2 ^ 64 → factor < 2 ^ 64 → delta * factor < 2 ^ 128
distance_fits delta factor small fits = omega (arith, mul-le-mul {n₁ = delta} {m₁ = factor} {n₂ = 18446744073709551615} {m₂ = 18446744073709551615} (omega arith) (omega arith))
