-- What a terminal is shown: a text before the first order is shown as it is.
use Rattle.std.specs.List.{position_or_len}
use Rattle.std.proofs.{Common.{◌≡◌, ◌≤◌, ◌+◌, ◌∙◌, ap, arith, ℕ, suc, Bool, true, false, List, [], ◌∷◌, refl, length, take, Option, Some, None, nat_lt, cond, not, position, unwrap_or, ltb-false}, lemmas.List.Sums.prefix_len-le-length}
use Rattle.dw_files.specs.Inner.Terminal.{is_order, shown}

pub plain_shown : (xs : List ℕ) → shown (take (position_or_len is_order xs) xs) ≡ take (position_or_len is_order xs) xs
plain_shown [] = refl
plain_shown (x ∷ xs) = of (is_order x) refl (plain_shown xs)
  where
    of : (b : Bool) → is_order x ≡ b → shown (take (position_or_len is_order xs) xs) ≡ take (position_or_len is_order xs) xs
        → shown (take (position_or_len is_order (x ∷ xs)) (x ∷ xs)) ≡ take (position_or_len is_order (x ∷ xs)) (x ∷ xs)
    of true is rest = rw is refl
    of false is rest = let one : 1 + position_or_len is_order xs ≡ suc (position_or_len is_order xs) = omega arith in rw (is, one, is) (ap (λ (t : List ℕ). x ∷ t) rest)

pub plain_stays : (xs : List ℕ) (n : ℕ) → n ≡ position_or_len is_order xs → shown (take n xs) ≡ take n xs
plain_stays xs n is = rw is (plain_shown xs)

-- without an order all bytes come before it
pub plain_of : (xs : List ℕ) (found : Option ℕ) (n : ℕ) → found ≡ position is_order xs → n ≡ unwrap_or found (length xs) → n ≡ position_or_len is_order xs
plain_of xs found n is plain = of (nat_lt (position_or_len is_order xs) (length xs)) refl (plain ∙ ap (λ (o : Option ℕ). unwrap_or o (length xs)) is)
  where
    most : position_or_len is_order xs ≤ length xs
    most = prefix_len-le-length (λ x. not (is_order x)) xs

    of : (b : Bool) → nat_lt (position_or_len is_order xs) (length xs) ≡ b → n ≡ unwrap_or (cond b (Some (position_or_len is_order xs)) None) (length xs) → n ≡ position_or_len is_order xs
    of true less same = same
    of false least same = let p = ltb-false (position_or_len is_order xs) (length xs) least in omega (arith, same, p, most)
