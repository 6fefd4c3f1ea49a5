-- The first register whose rule differs between two rows.
use Rattle.std.proofs.lemmas.List.{nil_from_length}
use Rattle.dw_row.proofs.Words.{◌≡◌, ℕ, suc, ◌+◌, ◌<◌, ◌≤◌, Bool, true, false, List, [], ◌∷◌, length, Option, Some, None, refl, sym, ap, ◌∙◌, subst, arith, bit_or, bit_at, filter, nat_cmp, range_contains, Bound, Unbounded, if◌then◌else◌}
use Rattle.dw_row.proofs.Words.{nat_lt, nat_tests, Entries, Unspecified, AreSpecified, BeginsWithOffset, far_behind, rule_in, entries_of, EntriesSo, SameBetween, DiffersFirst, FirstDifference, place_behind, SameUnset, start_behind}
use Rattle.dw_row.proofs.{Lent.{RowLists.{Entry, lower, unlisted}, SameRows.{first_rule, not_specified, same_entries}, Narrowed.{filter_keeps, filter_rule}}, Slots.{behind_slots, neither, not_set}}

-- ---- two lists, from both fronts

pub above : (low : ℕ) {l rest : List Entry} {x : Entry} → l ≡ x ∷ rest → AreSpecified 0 l → low ≤ x.0 → AreSpecified low l
above low e up le = let here = subst (AreSpecified 0) e up in subst (AreSpecified low) (sym e) (le, here.1, here.2)

pub none_above : (low : ℕ) {l : List Entry} → l ≡ [] → AreSpecified low l
none_above low e = subst (AreSpecified low) (sym e) tt

rest_up : (l rest : List Entry) (x : Entry) → l ≡ x ∷ rest → AreSpecified 0 l → AreSpecified 0 rest
rest_up l rest x e up = let here = subst (AreSpecified 0) e up in lower (suc x.0) 0 rest (omega arith) here.2

front_rule : (l rest : List Entry) (x : Entry) → l ≡ x ∷ rest → rule_in l x.0 ≡ x.1
front_rule l rest x e = ap (λ (m : List Entry). rule_in m x.0) e ∙ first_rule x rest

-- the first of a list, to which another one that has no register before it gives another rule
front_differs : (xs ys rest : List Entry) (x : Entry) → xs ≡ x ∷ rest → AreSpecified 0 xs → AreSpecified x.0 ys → (x.1 ≡ rule_in ys x.0 → ⊥) → DiffersFirst 0 xs ys x.0
front_differs xs ys rest x e up up' differ = (omega arith, (λ r le lt. unlisted r x.0 xs (above x.0 e up (omega arith)) lt ∙ sym (unlisted r x.0 ys up' lt)), λ same. differ (sym (front_rule xs rest x e) ∙ same))

-- the first of a list, which another one lacks
front_alone : (xs ys rest : List Entry) (x : Entry) → xs ≡ x ∷ rest → AreSpecified 0 xs → AreSpecified (suc x.0) ys → DiffersFirst 0 xs ys x.0
front_alone xs ys rest x e up up' =
    let here = subst (AreSpecified 0) e up in
    front_differs xs ys rest x e up (lower (suc x.0) x.0 ys (omega arith) up') (λ same. not_specified x.1 here.1 (same ∙ unlisted x.0 (suc x.0) ys up' (omega arith)))

-- what is left of two lists, whose first difference is that of the whole ones
pub record BothLeft (all others xs ys : List Entry) : Type 0 where
  pub left : AreSpecified 0 xs
  pub right : AreSpecified 0 ys
  pub whole : (o : Option ℕ) → FirstDifference 0 xs ys o → FirstDifference 0 all others o

module _ {all others xs ys : List Entry} (h : BothLeft all others xs ys) where
  pub none_differs : xs ≡ [] → ys ≡ [] → FirstDifference 0 all others None
  none_differs e e' = h.whole None (λ r le. rw (e, e') refl)

  pub left_differs : {x : Entry} {rest : List Entry} → xs ≡ x ∷ rest → AreSpecified (suc x.0) ys → FirstDifference 0 all others (Some x.0)
  left_differs {x} {rest} e up = h.whole (Some x.0) (front_alone xs ys rest x e h.left up)

  pub right_differs : {y : Entry} {rest : List Entry} → ys ≡ y ∷ rest → AreSpecified (suc y.0) xs → FirstDifference 0 all others (Some y.0)
  right_differs {y} {rest} e up = let d = front_alone ys xs rest y e h.right up in h.whole (Some y.0) (d.0, (λ r le lt. sym (d.1 r le lt)), λ same. d.2 (sym same))

  module _ {x y : Entry} {rest rest' : List Entry} (e : xs ≡ x ∷ rest) (e' : ys ≡ y ∷ rest') (le : x.0 ≤ y.0) (ge : y.0 ≤ x.0) where
    pub both_differ : (x.1 ≡ y.1 → ⊥) → FirstDifference 0 all others (Some x.0)
    both_differ differ =
        let at : x.0 ≡ y.0 = omega arith in
        h.whole (Some x.0) (front_differs xs ys rest x e h.left (above x.0 e' h.right le) (λ same. differ (same ∙ ap (rule_in ys) at ∙ front_rule ys rest' y e')))

    rest_same : x.1 ≡ y.1 → (r : ℕ) → rule_in rest r ≡ rule_in rest' r → rule_in xs r ≡ rule_in ys r
    rest_same same r is = grind (arith, nat_tests, ap (λ (l : List Entry). rule_in l r) e, ap (λ (l : List Entry). rule_in l r) e')

    rest_differs : (q : ℕ) → (rule_in rest q ≡ rule_in rest' q → ⊥) → rule_in xs q ≡ rule_in ys q → ⊥
    rest_differs q differ both =
        let up = subst (AreSpecified 0) e h.left in
        let up' = subst (AreSpecified 0) e' h.right in
        grind (arith, nat_tests, ap (λ (l : List Entry). rule_in l q) e, ap (λ (l : List Entry). rule_in l q) e', unlisted q (suc x.0) rest up.2, unlisted q (suc y.0) rest' up'.2, differ)

    fronts_same : x.1 ≡ y.1 → (o : Option ℕ) → FirstDifference 0 rest rest' o → FirstDifference 0 xs ys o
    fronts_same same None d = λ r low. rest_same same r (d r low)
    fronts_same same (Some q) d = (d.0, (λ r low lt. rest_same same r (d.1 r low lt)), rest_differs q d.2)

    pub both_same : x.1 ≡ y.1 → BothLeft all others rest rest'
    both_same same = record { left = rest_up xs rest x e h.left; right = rest_up ys rest' y e' h.right; whole = λ o d. h.whole o (fronts_same same o d) }

-- ---- slots

-- a register whose slot is used in neither
pub unused : (e f : Entries) → EntriesSo e → EntriesSo f → (mask : ℕ) → mask ≡ bit_or e.used f.used → SameUnset mask (entries_of e) (entries_of f)
unused e f so so' mask is q lt none =
    let both = neither e.used f.used q (sym (ap (λ (n : ℕ). bit_at n q) is) ∙ none) in not_set e so q lt both.0 ∙ sym (not_set f so' q lt both.1)

-- the registers up to the next one in the mask
pub up_to_next : (mask : ℕ) (xs ys : List Entry) (from k r : ℕ) → SameUnset mask xs ys → SameBetween from k xs ys → r ≤ 128 → ((q : ℕ) → k ≤ q → q < r → bit_at mask q ≡ 0) → SameBetween from r xs ys
up_to_next mask xs ys from k r unset same within none q le lt = grind (arith, same q, unset q, none q)

-- and that one
pub one_more : (mask : ℕ) (xs ys : List Entry) (from k r : ℕ) → SameUnset mask xs ys → SameBetween from k xs ys → r < 128 → ((q : ℕ) → k ≤ q → q < r → bit_at mask q ≡ 0) → rule_in xs r ≡ rule_in ys r → SameBetween from (r + 1) xs ys
one_more mask xs ys from k r unset same within none here q le lt = grind (arith, same q, unset q, none q, here)

-- ---- registers that have no slot

-- those from a place on
abbrev pub FromOn : (Entry → Bool) → ℕ → Type 0
FromOn p from = (x : Entry) → ((from ≤ x.0) → p x ≡ true) × ((x.0 < from) → p x ≡ false)

module _ (p : Entry → Bool) (from low : ℕ) (on : FromOn p from) where
  pub part_rule : (xs left : List Entry) → AreSpecified low xs → left ≡ filter p xs → (r : ℕ) → rule_in left r ≡ (if nat_lt r from then Unspecified else rule_in xs r)
  part_rule xs left up e r = grind (arith, nat_tests, on (r, rule_in xs r), filter_rule p low xs r up, ap (λ (l : List Entry). rule_in l r) e)

  pub first_from : (xs ys xs' ys' : List Entry) → AreSpecified low xs → AreSpecified low ys → xs' ≡ filter p xs → ys' ≡ filter p ys → (o : Option ℕ) → FirstDifference 0 xs' ys' o → FirstDifference from xs ys o
  first_from xs ys xs' ys' up up' e e' None h = λ r le. grind (arith, nat_tests, part_rule xs xs' up e r, part_rule ys ys' up' e' r, h r)
  first_from xs ys xs' ys' up up' e e' (Some q) h =
      let here = part_rule xs xs' up e q in let there = part_rule ys ys' up' e' q in
      let ge : from ≤ q = grind (arith, nat_tests, here, there, h.2) in
      (ge, (λ r le lt. grind (arith, nat_tests, part_rule xs xs' up e r, part_rule ys ys' up' e' r, h.1 r)), λ same. grind (arith, nat_tests, here, there, h.2, ge, same))

-- the part of a tree behind a register
pub range_on : (behind : Option ℕ) → FromOn (λ x. range_contains nat_cmp (start_behind behind) Unbounded x.0) (place_behind behind)
range_on None x = ((λ le. refl), (λ lt. absurd (omega arith)))
range_on (Some r) x = ((λ le. grind (arith, nat_tests)), (λ lt. grind (arith, nat_tests)))

-- behind the first of that part are its others
pub next_behind : (behind : Option ℕ) (far rest : List Entry) (x : Entry) → AreSpecified 128 far → far_behind behind far ≡ x ∷ rest → far_behind (Some x.0) far ≡ rest
next_behind behind far rest x up e =
    let inside = λ (b : Bound ℕ) (y : Entry). range_contains nat_cmp b Unbounded y.0 in
    let part = part_rule (inside (start_behind behind)) (place_behind behind) 128 (range_on behind) far (x ∷ rest) up (sym e) in
    let after = part_rule (inside (start_behind (Some x.0))) (suc x.0) 128 (range_on (Some x.0)) far (far_behind (Some x.0) far) up refl in
    let here = subst (AreSpecified 128) e (filter_keeps (inside (start_behind behind)) 128 far up) in
    let from : place_behind behind ≤ x.0 = grind (arith, nat_tests, part x.0, not_specified x.1 here.1) in
    same_entries 128 (far_behind (Some x.0) far) rest (filter_keeps (inside (start_behind (Some x.0))) 128 far up) (lower (suc x.0) 128 rest (omega (arith, here.0)) here.2)
    (λ r. grind (arith, nat_tests, part r, after r, unlisted r (suc x.0) rest here.2, from))

pub none_behind : (behind : Option ℕ) (far : List Entry) → length far ≡ 0 → far_behind behind far ≡ []
none_behind behind [] e = refl
none_behind behind (x ∷ xs) e = absurd cc

pub all_behind : (far : List Entry) → far_behind None far ≡ far
all_behind [] = refl
all_behind (x ∷ xs) = ap (λ (l : List Entry). x ∷ l) (all_behind xs)

-- a part of a tree ascends
pub part_up : (p : Entry → Bool) (far part : List Entry) → part ≡ filter p far → AreSpecified 128 far → AreSpecified 0 part
part_up p far part is up = subst (AreSpecified 0) (sym is) (filter_keeps p 0 far (lower 128 0 far (omega arith) up))

begins_far : (xs : List Entry) → AreSpecified 128 xs → BeginsWithOffset xs → ⊥
begins_far [] up begins = begins
begins_far (x ∷ xs) up begins = omega (arith, up.0, begins.0)

-- and begins with none below 128
pub none_near : (behind : Option ℕ) (far : List Entry) → AreSpecified 128 far → BeginsWithOffset (far_behind behind far) → ⊥
none_near behind far up begins = begins_far (far_behind behind far) (filter_keeps (λ (x : Entry). range_contains nat_cmp (start_behind behind) Unbounded x.0) 128 far up) begins

-- ---- all registers

module _ (e f : Entries) (so : EntriesSo e) (so' : EntriesSo f) (from : ℕ) (near : SameBetween from 128 (entries_of e) (entries_of f)) where
  behind : (r : ℕ) → 128 ≤ r → (rule_in (entries_of e) r ≡ rule_in e.far.entries r) × (rule_in (entries_of f) r ≡ rule_in f.far.entries r)
  behind r le = (behind_slots e so r le, behind_slots f so' r le)

  pub first_of_all : (o : Option ℕ) → FirstDifference from e.far.entries f.far.entries o → FirstDifference from (entries_of e) (entries_of f) o
  first_of_all None far = λ r le. grind (arith, near r, behind r, far r)
  first_of_all (Some q) far =
      let high : 128 ≤ q = grind (arith, unlisted q 128 e.far.entries so.far, unlisted q 128 f.far.entries so'.far, far.2) in
      (far.0, (λ r le lt. grind (arith, near r, behind r, far.1 r)), λ same. far.2 (sym (behind q high).0 ∙ same ∙ (behind q high).1))

  -- no register lies in the trees
  pub none_of_all : length e.far.entries ≡ 0 → length f.far.entries ≡ 0 → FirstDifference from (entries_of e) (entries_of f) None
  none_of_all one two = first_of_all None (λ r le. rw (nil_from_length e.far.entries one, nil_from_length f.far.entries two) refl)
