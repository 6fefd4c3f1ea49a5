-- Texts of lists, element by element.
use Rattle.dw_show.proofs.{Words.{◌≡◌, ◌∙◌, ℕ, zero, suc, ◌+◌, ◌<◌, ◌≤◌, List, [], ◌∷◌, ◌++◌, length, map, take, get_or, Option, sym, ap, arith, AllZip, append_assoc, append-nil, total, lines, Adds}, Puts.nothing, Lent.Endings.on}
use Rattle.dw_show.specs.declared.listing.Listing.{Listing}

-- one element more
pub lines_more : {A : Type 0} (text : A → List ℕ) (xs : List A) (i : ℕ) (d : A) → i < length xs → lines text (take (i + 1) xs) ≡ lines text (take i xs) ++ text (get_or xs i d)
lines_more text [] i d h = absurd (omega (arith, h))
lines_more text (x ∷ xs) zero d h = append-nil (text x)
lines_more text (x ∷ xs) (suc i) d h =
    let e : suc i + 1 ≡ suc (i + 1) = omega arith in
    rw e (ap (λ (l : List ℕ). text x ++ l) (lines_more text xs i d (omega (arith, h))) ∙ sym (append_assoc (text x) (lines text (take i xs)) (text (get_or xs i d))))

-- one text more
pub lines_push : {A : Type 0} (text : A → List ℕ) (xs : List A) (x : A) → lines text (xs ++ x ∷ []) ≡ lines text xs ++ text x
lines_push text [] x = append-nil (text x)
lines_push text (y ∷ xs) x = ap (λ (l : List ℕ). text y ++ l) (lines_push text xs x) ∙ sym (append_assoc (text y) (lines text xs) (text x))

-- one pair more
pub zip_more : {A B : Type 0} (R : A → B → Type 0) (xs : List A) (ys : List B) (i : ℕ) (d : A) (y : B) → i < length xs → AllZip R (take i xs) ys → R (get_or xs i d) y
    → AllZip R (take (i + 1) xs) (ys ++ y ∷ [])
zip_more R [] ys i d y lt h r = absurd (omega (arith, lt))
zip_more R (x ∷ xs) [] zero d y lt h r = (r, tt)
zip_more R (x ∷ xs) (z ∷ ys) zero d y lt h r = absurd h
zip_more R (x ∷ xs) [] (suc i) d y lt h r = absurd h
zip_more R (x ∷ xs) (z ∷ ys) (suc i) d y lt h r =
    let e : suc i + 1 ≡ suc (i + 1) = omega arith in
    let rest = zip_more R xs ys i d y (omega (arith, lt)) h.1 r in
    rw e (h.0, rest)

-- no pair more
pub zip_all : {A B : Type 0} (R : A → B → Type 0) (xs : List A) (ys : List B) (i : ℕ) → length xs ≤ i → AllZip R (take i xs) ys → AllZip R xs ys
zip_all R [] ys zero le h = h
zip_all R [] ys (suc i) le h = h
zip_all R (x ∷ xs) ys zero le h = absurd (omega (arith, le))
zip_all R (x ∷ xs) [] (suc i) le h = absurd h
zip_all R (x ∷ xs) (y ∷ ys) (suc i) le h =
    let rest = zip_all R xs ys i (omega (arith, le)) h.1 in
    (h.0, rest)

-- and of a sum
pub total_more : {A : Type 0} (count : A → ℕ) (xs : List A) (i : ℕ) (d : A) → i < length xs
    → total (map count (take (i + 1) xs)) ≡ total (map count (take i xs)) + count (get_or xs i d)
total_more count [] i d h = absurd (omega (arith, h))
total_more count (x ∷ xs) zero d h = omega arith
total_more count (x ∷ xs) (suc i) d h =
    let e : suc i + 1 ≡ suc (i + 1) = omega arith in
    let rest = total_more count xs i d (omega (arith, h)) in
    rw e (omega (arith, rest))

-- ---- the text that is left

module _ {W : Type 0} (contents : W → Option (List ℕ)) (from : Listing W) (all : List ℕ) where
  -- where a text is put from here, all of it is put from there
  abbrev pub Leads : Listing W → List ℕ → Type 0
  Leads here left = (to : Listing W) → Adds contents here to left → Adds contents from to all

  -- a part of it is put
  pub leads_on : (here next : Listing W) (part left : List ℕ) → Leads here (part ++ left) → Adds contents here next part → Leads next left
  leads_on here next part left h put to rest = h to (on contents here next to part left put rest)

  -- nothing is left
  pub leads_to : (here : Listing W) → Leads here [] → Adds contents from here all
  leads_to here h = h here (nothing contents here)
