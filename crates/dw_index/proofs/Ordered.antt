-- FDEs in order, and the first that begins below the end of one before it.
use Rattle.std.specs.{Cmp.nat_cmp_is, List.{IsDistinct}, List.Sorted.{IsNonDecreasingBy, IsStableByKey}}
use Rattle.std.proofs.Common.{◌≡◌, ℕ, zero, suc, ◌+◌, ◌<◌, ◌≤◌, ◌==◌, Bool, List, [], ◌∷◌, ◌++◌, map, length, get_or, take, drop, refl, sym, ap, ◌∙◌, arith, inl, inr, add-one, Greater, nat_cmp, is_lt, ne_eqb, take-append-drop}
use Rattle.std.proofs.Common.{IsPermutation, IsSortedByKey}
use Rattle.std.proofs.lemmas.{Bool.Decides.nat_tests, List.{drop_more, map-append}, List.Elements.All-from_recursion, List.Sorted.ties_still_rise}
use Rattle.std.proofs.lemmas.Map.Keys.{IsDistinct-from_apart, apart_from_distinct, IsDistinct-IsPermutation}
use Rattle.dw_num.specs.declared.refusal.Code.TheVariants.{Overlap}
use Rattle.dw_index.specs.{Ranges.{AreApart, Ascends, FirstOverlap, Precedes, Range, StandInOrder, end_of, range_in}, Inner.Index.EndsAt, declared.ranged.Ranged.Ranged}
use Rattle.dw_index.proofs.Lent.Lists.{all_push, all_weaker, among_here, apart_more}

-- the entry where there is none
abbrev pub none : Ranged
none = record { begin = 0; range = 0; at = 0; return_register = 0 }

-- ---- overlaps

pub overlap_more : (rs : List Range) (x : Range) (greatest : ℕ) → AreApart rs × EndsAt rs greatest → greatest ≤ x.begin → AreApart (rs ++ x ∷ []) × EndsAt (rs ++ x ∷ []) (x.begin + x.range)
overlap_more rs x greatest h le = (
  apart_more rs x greatest h.0 h.1.0 le,
  (all_push (λ a. end_of a ≤ x.begin + x.range) rs x (all_weaker (λ (a : Range). end_of a ≤ greatest) (λ (a : Range). end_of a ≤ x.begin + x.range) (λ a ends. omega (arith, ends)) rs h.1.0) (omega arith), inr (x, among_here rs x [], refl)),
)

pub overlap_at : (xs : List Ranged) (i : ℕ) (d : Ranged) (greatest : ℕ) → i < length xs → AreApart (map range_in (take i xs)) × EndsAt (map range_in (take i xs)) greatest → (get_or xs i d).begin < greatest
    → FirstOverlap (map range_in xs) (record { code = Overlap; at = (get_or xs i d).at })
overlap_at xs i d greatest lt h below = elim h.1.1 [
  | inl none ↦ absurd (omega arith)
  | inr some ↦ record {
    before = map range_in (take i xs);
    it = range_in (get_or xs i d);
    after = map range_in (drop (i + 1) xs);
    whole = ap (map range_in) (sym (take-append-drop i xs) ∙ ap (λ (l : List Ranged). take i xs ++ l) (drop_more xs i d lt)) ∙ map-append range_in (take i xs) (get_or xs i d ∷ drop (i + 1) xs);
    apart = h.0;
    other = some.0;
    other_in = some.1;
    meets = omega (arith, some.2);
    is = refl;
  }
]

-- ---- order

pub ascends_from : (ys : List Ranged) → ((k : ℕ) (d : Ranged) → suc k < length ys → Precedes (range_in (get_or ys k d)) (range_in (get_or ys (suc k) d))) → Ascends (map range_in ys)
ascends_from [] h = tt
ascends_from (y ∷ []) h = (tt, tt)
ascends_from (y ∷ z ∷ ys) h =
    let p = h 0 y (omega arith) in
    let rest = ascends_from (z ∷ ys) (λ k d lt. h (suc k) d (omega arith)) in
    ((p, all_weaker (Precedes (range_in z)) (Precedes (range_in y)) (λ x later. grind (arith, p, later)) (map range_in ys) rest.0), rest)

-- ---- a stable sort by begin

abbrev same_place : Ranged → Ranged → Bool
same_place e f = e.at == f.at

later_place : (xs : List Ranged) (i j : ℕ) (d : Ranged) → StandInOrder xs → i < j → j < length xs → (get_or xs i d).at < (get_or xs j d).at
later_place [] i j d up less lt = absurd (omega arith)
later_place (x ∷ xs) zero zero d up less lt = absurd (omega arith)
later_place (x ∷ xs) zero (suc j) d up less lt = All-from_recursion (λ (f : Ranged). x.at < f.at) xs up.0 j d (omega arith)
later_place (x ∷ xs) (suc i) zero d up less lt = absurd (omega arith)
later_place (x ∷ xs) (suc i) (suc j) d up less lt = later_place xs i j d up.1 (omega arith) (omega arith)

places_apart : (xs : List Ranged) → StandInOrder xs → IsDistinct same_place xs
places_apart xs up = IsDistinct-from_apart same_place xs (λ i j d less lt. ne_eqb (get_or xs i d).at (get_or xs j d).at (λ same. omega (arith, later_place xs i j d up less lt, same)))

places_sorted : (xs : List Ranged) → StandInOrder xs → IsSortedByKey (λ (e : Ranged). e.at) nat_cmp xs
places_sorted xs up = λ k d le lt. rw add-one (ap is_lt (sym (nat_cmp_is (get_or xs (suc k) d).at (get_or xs k d).at Greater (later_place xs k (suc k) d up (omega arith) (omega arith)))))

pub sorted_ascends : (xs ys : List Ranged) → StandInOrder xs → IsPermutation xs ys → IsNonDecreasingBy (λ (e : Ranged). e.begin) ys → IsStableByKey (λ (e : Ranged). e.begin) nat_cmp xs ys → Ascends (map range_in ys)
sorted_ascends xs ys up p sorted stable = ascends_from ys next
  where
    next : (k : ℕ) (d : Ranged) → suc k < length ys → Precedes (range_in (get_or ys k d)) (range_in (get_or ys (suc k) d))
    next k d lt =
        let le : (get_or ys k d).begin ≤ (get_or ys (suc k) d).begin = sorted k (suc k) d (omega arith) lt in
        let rise : (get_or ys k d).begin ≡ (get_or ys (suc k) d).begin → (get_or ys k d).at ≤ (get_or ys (suc k) d).at =
        λ same. rw add-one at (ties_still_rise (λ (e : Ranged). e.at) (λ (e : Ranged). e.begin) xs ys (places_sorted xs up) stable k d (omega arith) (rw add-one same)) in
        let apart = apart_from_distinct same_place ys k (suc k) d (IsDistinct-IsPermutation same_place (λ e f. grind (arith, nat_tests)) xs ys p (places_apart xs up)) (omega arith) lt in
        grind (arith, nat_tests, le, rise, apart)
