-- Bytes as hexadecimal digits, byte by byte.
use Rattle.dw_show.proofs.Words.{◌≡◌, ℕ, zero, suc, ◌+◌, ◌/◌, ◌%◌, ◌<◌, ◌==◌, false, List, [], ◌∷◌, ◌++◌, codes, length, take, get_or, slice_index, refl, ap, arith, Result, Ok, Err, IsOk, OnOk, encode_lower, encode_with, lower_digits}
use Rattle.dw_show.proofs.Words.{least_text, line_end}

pub encode_none : encode_lower [] ≡ []
unfolding encode_with
encode_none = refl

-- one byte more
pub encode_more : (xs : List ℕ) (i d : ℕ) → i < length xs → encode_lower (take (i + 1) xs) ≡ encode_lower (take i xs) ++ encode_lower (get_or xs i d ∷ [])
unfolding encode_with
encode_more [] i d h = absurd (omega (arith, h))
encode_more (x ∷ xs) zero d h = refl
encode_more (x ∷ xs) (suc i) d h =
    let e : suc i + 1 ≡ suc (i + 1) = omega arith in
    rw e (ap (λ (l : List ℕ). slice_index lower_digits (x / 16) ∷ slice_index lower_digits (x % 16) ∷ l) (encode_more xs i d (omega (arith, h))))

pub least_some : (least : List ℕ) → (length least == 0) ≡ false → least_text least ≡ codes "least " ++ encode_lower least ++ line_end
least_some [] some = absurd cc
least_some (b ∷ bytes) some = refl

pub ok_so : {T E P : Type 0} (r : Result T E) → IsOk r → OnOk r P → P
ok_so (Ok x) is h = h
ok_so (Err e) is h = absurd cc
