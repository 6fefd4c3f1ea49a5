-- Signed readings of numbers.
use Rattle.dw_eval.proofs.Words.{◌≡◌, Bool, true, false, ℕ, zero, suc, ◌%◌, ◌^◌, ◌<◌, ◌≤◌, ℤ, pos, negsuc, ◌<ℤ◌, ◌≤ℤ◌, to_z, of_z, w32, w64, FitsSigned, refl, sym, ◌∙◌, ap, arith, min, if◌then◌else◌, ints, to_z-of_z, of_z-to_z, Size, Four}
use Rattle.dw_eval.proofs.Words.{Eight, address_limit, signed, bit_count, shifted_signed}
use Rattle.std.specs.{Int.{cast_signed, IsNonZero}, Int.Signed.{shr_z, mag, lt_z}}
use Rattle.std.proofs.{Common.{inl, inr, lit<}, Math.{Facts.sfits_to_z, Nat.pow-le-pow_right}, lemmas.{Bool.cases_lt, Nat.div_below}}

pub signed_whole : (size : Size) (n : ℕ) (r : ℤ) → size ≡ Eight → n < 2 ^ 64 → r ≡ cast_signed w64 n → to_z w64 (of_z w64 r) ≡ signed size n
unfolding signed
signed_whole Four n r e h is = absurd (cc)
signed_whole Eight n r e h is =
    let small : n % 18446744073709551616 ≡ n = omega arith in
    rw (small, is) (omega (arith, ints))

-- a number that is not 0 modulo 2 ^ N is not 0 as signed
unsigned_nonzero : (z : ℤ) → FitsSigned w64 z → (z ≡ pos 0 → ⊥) → 0 < of_z w64 z
unsigned_nonzero (pos zero) f h = absurd (h refl)
unsigned_nonzero (pos (suc n)) f h = omega arith
unsigned_nonzero (negsuc n) f h = omega (arith, f.sfits)

nonzero_fits : (z : ℤ) → FitsSigned w64 z → (z ≡ pos 0 → ⊥) → 0 < of_z w64 (to_z w64 (of_z w64 z))
nonzero_fits z f h = rw (to_z-of_z w64 z f) (unsigned_nonzero z f h)

half_nonzero : (x : ℕ) → x < 2 ^ 32 → 0 < x → to_z w32 x ≡ pos 0 → ⊥
half_nonzero x h w e = omega (arith, of_z-to_z w32 x h, ap (of_z w32) e)

whole_nonzero : (x : ℕ) → x < 2 ^ 64 → 0 < x → to_z w64 x ≡ pos 0 → ⊥
whole_nonzero x h w e = omega (arith, of_z-to_z w64 x h, ap (of_z w64) e)

half_fits : (x : ℕ) → x < 2 ^ 32 → FitsSigned w64 (to_z w32 x)
half_fits x h = let f : FitsSigned w32 (to_z w32 x) = sfits_to_z {w = w32} {n = x} (record { fits = h }) in record { sfits = omega (arith, f.sfits) }

whole_fits : (x : ℕ) → x < 2 ^ 64 → FitsSigned w64 (to_z w64 x)
whole_fits x h = sfits_to_z {w = w64} {n = x} (record { fits = h })

pub nonzero : (size : Size) (n : ℕ) (r : ℤ) → 0 < n % address_limit size → r ≡ signed size n → IsNonZero w64 (to_z w64 (of_z w64 r))
unfolding signed
nonzero Four n r h is = rw is (nonzero_fits (to_z w32 (n % 4294967296)) (half_fits (n % 4294967296) (omega arith)) (half_nonzero (n % 4294967296) (omega arith) h))
nonzero Eight n r h is = rw is (nonzero_fits (to_z w64 (n % 18446744073709551616)) (whole_fits (n % 18446744073709551616) (omega arith)) (whole_nonzero (n % 18446744073709551616) (omega arith) h))

pub signed_half : (size : Size) (n : ℕ) (a b : ℤ) → size ≡ Four → a ≡ to_z w32 (n % 4294967296) → b ≡ to_z w32 (of_z w32 a) → to_z w64 (of_z w64 b) ≡ signed size n
unfolding signed
signed_half Eight n a b e is_a is_b = absurd (cc)
signed_half Four n a b e is_a is_b =
    let fits : n % 4294967296 < 2 ^ 32 = omega arith in
    rw (is_b, is_a, of_z-to_z w32 (n % 4294967296) fits) (to_z-of_z w64 (to_z w32 (n % 4294967296)) (half_fits (n % 4294967296) fits))

below_zero : (z : ℤ) → lt_z z (pos 0) ≡ true → z <ℤ pos 0
below_zero z e = grind (arith, ints)

from_zero : (z : ℤ) → lt_z z (pos 0) ≡ false → pos 0 ≤ℤ z
from_zero z e = grind (arith, ints)

-- what is left of a number whose bits are all shifted out: its sign
left_of : (z : ℤ) (k : ℕ) (b : Bool) → mag z < k → lt_z z (pos 0) ≡ b → shr_z z k ≡ (if b then negsuc 0 else pos 0)
left_of (pos n) k true h e = let low : pos n <ℤ pos 0 = below_zero (pos n) e in absurd (omega (arith, ints))
left_of (pos n) k false h e = ap pos (omega (arith, div_below n k 1 (omega (arith, h)) (omega (arith, h))))
left_of (negsuc n) k true h e = ap negsuc (omega (arith, div_below n k 1 (omega (arith, h)) (omega (arith, h))))
left_of (negsuc n) k false h e = let high : pos 0 ≤ℤ negsuc n = from_zero (negsuc n) e in absurd (omega (arith, ints))

far_by : (size : Size) (s t : ℕ) → bit_count size ≤ t → shifted_signed size s t ≡ (if lt_z (signed size s) (pos 0) then negsuc 0 else pos 0)
unfolding signed
far_by Four s t h =
    let all : min t 32 ≡ 32 = omega arith in
    let f : FitsSigned w32 (to_z w32 (s % 4294967296)) = sfits_to_z {w = w32} {n = s % 4294967296} (record { fits = omega arith }) in
    ap (λ k. shr_z (to_z w32 (s % 4294967296)) (2 ^ k)) all ∙ left_of (to_z w32 (s % 4294967296)) 4294967296 _ (omega (arith, f.sfits)) refl
far_by Eight s t h =
    let all : min t 64 ≡ 64 = omega arith in
    let f : FitsSigned w64 (to_z w64 (s % 18446744073709551616)) = whole_fits (s % 18446744073709551616) (omega arith) in
    ap (λ k. shr_z (to_z w64 (s % 18446744073709551616)) (2 ^ k)) all ∙ left_of (to_z w64 (s % 18446744073709551616)) 18446744073709551616 _ (omega (arith, f.sfits)) refl

-- what is left after 63 bits or fewer
pub shifted_all : (size : Size) (s t : ℕ) → shr_z (signed size s) (2 ^ min t 63) ≡ shifted_signed size s t
unfolding signed
shifted_all Four s t = elim (cases_lt t 32) [
  | inl lt ↦ ap (λ k. shr_z (signed Four s) (2 ^ k)) (omega arith)
  | inr ge ↦
      let f : FitsSigned w32 (to_z w32 (s % 4294967296)) = sfits_to_z {w = w32} {n = s % 4294967296} (record { fits = omega arith }) in
      let more : 2 ^ 32 ≤ 2 ^ min t 63 = let least : 32 ≤ min t 63 = omega arith in pow-le-pow_right (lit< tt) least in
      left_of (to_z w32 (s % 4294967296)) (2 ^ min t 63) _ (omega (arith, f.sfits)) refl ∙ sym (far_by Four s t ge)
]
shifted_all Eight s t = elim (cases_lt t 64) [
  | inl lt ↦ ap (λ k. shr_z (signed Eight s) (2 ^ k)) (omega arith)
  | inr ge ↦
      let all : min t 63 ≡ 63 = omega arith in
      let f : FitsSigned w64 (to_z w64 (s % 18446744073709551616)) = whole_fits (s % 18446744073709551616) (omega arith) in
      ap (λ k. shr_z (to_z w64 (s % 18446744073709551616)) (2 ^ k)) all ∙ left_of (to_z w64 (s % 18446744073709551616)) 9223372036854775808 _ (omega (arith, f.sfits)) refl ∙ sym (far_by Eight s t ge)
]
