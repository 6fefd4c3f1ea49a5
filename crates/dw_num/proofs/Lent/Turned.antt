-- Sums of value bits that are turned over, and signed numbers.
use Rattle.dw_num.proofs.Words.{◌≡◌, ℕ, suc, ◌+◌, ◌-◌, ◌*◌, ◌%◌, ◌^◌, ◌<◌, ◌≤◌, Bool, true, false, List, [], ◌∷◌, length, get_or, refl, sym, ap, add-zero, arith, pos, negsuc, ◌-ℤ◌, FitsSigned}
use Rattle.dw_num.proofs.{Words.{w64, pow-suc, ints, to_z, of_z, groups_from, groups, last_byte, is_negative, signed_groups, turned_from, as_signed}, LebLemmas.{pow128, turned_from-false}}

-- both sums together
pub both_sums : (k : ℕ) (xs : List ℕ) → groups_from k xs + turned_from true k xs + 128 ^ k ≡ 128 ^ (k + length xs)
both_sums k [] = rw (add-zero k) (omega arith)
both_sums k (x ∷ xs) =
    let ih = both_sums (suc k) xs in
    let e : k + suc (length xs) ≡ suc k + length xs = omega arith in
    let s : 128 ^ suc k ≡ 128 ^ k * 128 = pow-suc 128 k in
    let two : x % 128 + (127 - x % 128) ≡ 127 = omega arith in
    let p : x % 128 * 128 ^ k + (127 - x % 128) * 128 ^ k ≡ 127 * 128 ^ k = product (x % 128) (127 - x % 128) (128 ^ k) two in
    rw e (omega (arith, ih, s, p))
  where
    product : (a b q : ℕ) → a + b ≡ 127 → a * q + b * q ≡ 127 * q
    product a b q h = rw (← h) (omega arith)

pub last_byte-read : (b : List ℕ) → last_byte b ≡ get_or b (length b - 1) 0
last_byte-read [] = refl
last_byte-read (x ∷ []) = refl
last_byte-read (x ∷ y ∷ b) =
    let e : length (x ∷ y ∷ b) - 1 ≡ suc (length (y ∷ b) - 1) = omega arith in
    rw e (last_byte-read (y ∷ b))

pub signed_groups-turned : (b : List ℕ) (t : Bool) → t ≡ is_negative b → signed_groups b ≡ as_signed t (turned_from t 0 b)
signed_groups-turned b true e =
    let both : groups b + turned_from true 0 b + 128 ^ 0 ≡ 128 ^ (0 + length b) = both_sums 0 b in
    let same : 0 + length b ≡ length b = omega arith in
    let both' = rw same at both in
    rw (← e) (omega (arith, ints, both', pow128 (length b)))
signed_groups-turned b false e = rw (← e) (ap pos (sym (turned_from-false 0 b)))

pub too_large : (b : List ℕ) (t : Bool) → t ≡ is_negative b → 2 ^ 63 ≤ turned_from t 0 b → FitsSigned w64 (signed_groups b) → ⊥
too_large b true e big fits = let f = rw (signed_groups-turned b true e) at fits in omega (arith, f.sfits)
too_large b false e big fits = let f = rw (signed_groups-turned b false e) at fits in omega (arith, f.sfits)

pub negative_is : (b : List ℕ) (t : Bool) (sum : ℕ) → t ≡ is_negative b → t ≡ true → sum ≡ turned_from t 0 b → sum < 2 ^ 63 → to_z w64 (of_z w64 (negsuc 0 -ℤ to_z w64 sum)) ≡ signed_groups b
negative_is b true sum e is s small = rw (signed_groups-turned b true e, ← s) (omega (arith, ints))
negative_is b false sum e is s small = absurd cc

pub positive_is : (b : List ℕ) (t : Bool) (sum : ℕ) → t ≡ is_negative b → t ≡ false → sum ≡ turned_from t 0 b → sum < 2 ^ 63 → to_z w64 sum ≡ signed_groups b
positive_is b true sum e is s small = absurd cc
positive_is b false sum e is s small = rw (signed_groups-turned b false e, ← s) (omega (arith, ints))
