-- Hexadecimal digits, two of a byte, without leading zeros.
use Rattle.dw_show.proofs.Words.{◌≡◌, ◌∙◌, ◌⊎◌, inl, inr, ℕ, zero, suc, ◌+◌, ◌-◌, ◌*◌, ◌/◌, ◌%◌, ◌^◌, ◌<◌, ◌≤◌, ◌==◌, ◌&&◌, Bool, true, false, List, [], ◌∷◌, ◌++◌, get_or, refl, ap, sym, arith, codes, ⊎_elim, min, if◌then◌else◌}
use Rattle.dw_show.proofs.Words.{digit_glyph, digits, digits_onto, append_assoc, eq-or-lt_of_le, pow-suc, eqb-true, leading_top}
use Rattle.std.proofs.Common.{T, eqb, eqb→eq, eq-zero-or-pos}
use lib.Ieee.Fits.{and_l, and_r}
use Rattle.std.specs.Int.Count.{count_leading_zeros, leading_of_zero}
use Rattle.std.proofs.Math.{Nat.pow-le-pow_right, Pow.shr_mono}
use Rattle.std.proofs.lemmas.Nat.{shl-shr, shr-shr, shr_below}
use Rattle.dw_show.specs.declared.listing.TheConstants.{HEX_PAIRS}

-- ---- the table

abbrev are_pairs : ℕ → Bool
are_pairs zero = true
are_pairs (suc b) = (eqb (get_or HEX_PAIRS.now (2 * b) 0) (digit_glyph false (b / 16)) && eqb (get_or HEX_PAIRS.now (2 * b + 1) 0) (digit_glyph false (b % 16))) && are_pairs b

below : (n b : ℕ) → T (are_pairs n) → b < n → (get_or HEX_PAIRS.now (2 * b) 0 ≡ digit_glyph false (b / 16)) × (get_or HEX_PAIRS.now (2 * b + 1) 0 ≡ digit_glyph false (b % 16))
below zero b t h = absurd (omega (arith, h))
below (suc n) b t h = elim (eq-zero-or-pos (n - b)) [
  | inl none ↦ let same : b ≡ n = omega (arith, none, h) in let a = and_l _ (are_pairs n) t in rw same (eqb→eq _ _ (and_l _ _ a), eqb→eq _ _ (and_r _ _ a))
  | inr some ↦ below n b (and_r _ (are_pairs n) t) (omega (arith, some))
]

pub pair_at : (b : ℕ) → b < 256 → (get_or HEX_PAIRS.now (2 * b) 0 ≡ digit_glyph false (b / 16)) × (get_or HEX_PAIRS.now (2 * b + 1) 0 ≡ digit_glyph false (b % 16))
pair_at b h = below 256 b tt h

-- ---- digits behind digits

-- however many digits there may be at most
onto : (j k l n : ℕ) (acc : List ℕ) → n < 16 ^ suc j → j < k → j < l → digits_onto k 16 false n acc ≡ digits_onto l 16 false n [] ++ acc
onto j zero l n acc small h i = absurd (omega (arith, h))
onto j k zero n acc small h i = absurd (omega (arith, i))
onto zero (suc k) (suc l) n acc small h i = let none : n / 16 ≡ 0 = omega (arith, small) in rw none refl
onto (suc j) (suc k) (suc l) n acc small h i =
    let p = pow-suc 16 (suc j) in
    let fewer : n / 16 < 16 ^ suc j = omega (arith, p, small) in
    let last = digit_glyph false (n % 16) in
    of (n / 16 == 0) (onto j k l (n / 16) (last ∷ acc) fewer (omega (arith, h)) (omega (arith, i))) (onto j l l (n / 16) (last ∷ []) fewer (omega (arith, i)) (omega (arith, i)))
  where
    of : (b : Bool) → digits_onto k 16 false (n / 16) (digit_glyph false (n % 16) ∷ acc) ≡ digits_onto l 16 false (n / 16) [] ++ digit_glyph false (n % 16) ∷ acc
        → digits_onto l 16 false (n / 16) (digit_glyph false (n % 16) ∷ []) ≡ digits_onto l 16 false (n / 16) [] ++ digit_glyph false (n % 16) ∷ []
        → (if b then digit_glyph false (n % 16) ∷ acc else digits_onto k 16 false (n / 16) (digit_glyph false (n % 16) ∷ acc))
        ≡ (if b then digit_glyph false (n % 16) ∷ [] else digits_onto l 16 false (n / 16) (digit_glyph false (n % 16) ∷ [])) ++ acc
    of true long short = refl
    of false long short = long ∙ sym (append_assoc (digits_onto l 16 false (n / 16) []) (digit_glyph false (n % 16) ∷ []) acc) ∙ ap (λ (xs : List ℕ). xs ++ acc) (sym short)

next : (k n : ℕ) (acc : List ℕ) → 0 < n / 16 → digits_onto (suc k) 16 false n acc ≡ digits_onto k 16 false (n / 16) (digit_glyph false (n % 16) ∷ acc)
next k n acc some = of (n / 16 == 0) refl
  where
    of : (b : Bool) → (n / 16 == 0) ≡ b → (if b then digit_glyph false (n % 16) ∷ acc else digits_onto k 16 false (n / 16) (digit_glyph false (n % 16) ∷ acc)) ≡ digits_onto k 16 false (n / 16) (digit_glyph false (n % 16) ∷ acc)
    of true is = let none = eqb-true (n / 16) 0 is in absurd (omega (arith, none, some))
    of false is = refl

-- a byte more
pub byte_more : (n b : ℕ) → 1 ≤ n / 256 → n < 2 ^ 64 → b ≡ n % 256 → digits 16 false n ≡ digits 16 false (n / 256) ++ digit_glyph false (b / 16) ∷ digit_glyph false (b % 16) ∷ []
unfolding digits
byte_more n b some small is =
    let two : List ℕ = digit_glyph false (b / 16) ∷ digit_glyph false (b % 16) ∷ [] in
    let high : n / 16 % 16 ≡ b / 16 = omega (arith, is) in
    let low : n % 16 ≡ b % 16 = omega (arith, is) in
    let rest : n / 16 / 16 ≡ n / 256 = omega arith in
    next 63 n [] (omega (arith, some)) ∙ next 62 (n / 16) (digit_glyph false (n % 16) ∷ []) (omega (arith, some)) ∙ rw (high, low, rest) (onto 15 62 64 (n / 256) two (omega (arith, small)) (omega arith) (omega arith))

-- ---- the bytes of a number

-- one byte less is left
pub byte_of : (n left : ℕ) → 0 < left → n / 2 ^ (8 * (left - 1)) / 256 ≡ n / 2 ^ (8 * left)
byte_of n left some =
    let e : 8 * (left - 1) + 8 ≡ 8 * left = omega (arith, some) in
    shr-shr n (8 * (left - 1)) 8 ∙ ap (λ (k : ℕ). n / 2 ^ k) e

-- the first byte that is not zero
pub first_byte : (n z : ℕ) → n < 2 ^ 64 → z ≡ min (count_leading_zeros 64 n / 8) 7 → (n / 2 ^ (8 * (7 - z)) < 256) × ((7 - z ≡ 0) ⊎ (1 ≤ n / 2 ^ (8 * (7 - z))))
first_byte zero z small is = let seven : z ≡ 7 = is ∙ ap (λ (x : ℕ). min (x / 8) 7) (leading_of_zero 64) in rw seven (omega arith, inl refl)
first_byte (suc n) z small is =
    let t = leading_top 64 (suc n) (omega arith) small in
    let k = 8 * (7 - z) in
    let long : suc t.0 ≤ 8 + k = omega (arith, is, t.1) in
    let short : k ≤ t.0 = omega (arith, is, t.1) in
    let most = pow-le-pow_right {n = 2} (omega arith) long in
    let least = pow-le-pow_right {n = 2} (omega arith) short in
    let one : 1 * 2 ^ k ≤ suc n = omega (arith, least, t.2) in
    (shr_below (suc n) 8 k (omega (arith, most, t.3)), inr (rw (shl-shr 1 k) at (shr_mono k one)))

-- ---- the end of the last address

last_end : digits 16 false 18446744073709551616 ≡ codes "10000000000000000"
unfolding digits
last_end = refl

pub is_last : (n : ℕ) → n ≤ 2 ^ 64 → (n < 2 ^ 64 → ⊥) → codes "10000000000000000" ≡ digits 16 false n
is_last n most least = ⊎_elim (λ is. sym last_end ∙ ap (digits 16 false) (sym is)) (λ less. absurd (least less)) (eq-or-lt_of_le most)
