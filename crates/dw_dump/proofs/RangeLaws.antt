-- Ranges that rise, that are apart, and that meet.
use Rattle.std.proofs.{Common.rules, lemmas.List.Elements.{recursion_from_All, All-from_recursion}}
use Rattle.dw_dump.specs.Inner.Ranges.{Rise}
use Rattle.dw_dump.proofs.Words.{◌≡◌, ◌⊎◌, ℕ, zero, suc, ◌+◌, ◌-◌, ◌<◌, ◌≤◌, Bool, true, false, cond, List, [], ◌∷◌, length, get_or, Option, Some, None, refl, sym, ap, ◌∙◌, arith, add-one, inl, inr, AllByRecursion, sum_by, IsPermutation}
use Rattle.dw_dump.proofs.Words.{IsNonDecreasingBy, cases_lt, sum_by-IsPermutation, IsPermutation-sym, All-permutation, get_or_default, MatchBool, sum_by-cons, slice_get-get_or, Range, end_of, covers, byte_of, byte_among, cover_count}
use Rattle.dw_dump.proofs.{Words.{AreApart, Meet, IsSoundRange}, Lent.Elements.all_more}

-- ---- whether a range covers an address

pub covers_tells : (a : ℕ) (r : Range) → ((covers a r ≡ true) × (r.address ≤ a) × (a < end_of r)) ⊎ ((covers a r ≡ false) × ((a < r.address) ⊎ (end_of r ≤ a)))
covers_tells a r = search (rules, end_of)

count_of : (a : ℕ) (r : Range) (rs : List Range) → cover_count a (r ∷ rs) ≡ cond (covers a r) 1 0 + cover_count a rs
count_of a r rs = sum_by-cons (λ (q : Range). cond (covers a q) 1 0) r rs

pub count_yes : (a : ℕ) (r : Range) (rs : List Range) → covers a r ≡ true → cover_count a (r ∷ rs) ≡ 1 + cover_count a rs
count_yes a r rs is = count_of a r rs ∙ rw is refl

pub count_no : (a : ℕ) (r : Range) (rs : List Range) → covers a r ≡ false → cover_count a (r ∷ rs) ≡ cover_count a rs
count_no a r rs is = count_of a r rs ∙ rw is (omega arith)

count_behind : (a : ℕ) (rs : List Range) → AllByRecursion (λ q. a < q.address) rs → cover_count a rs ≡ 0
count_behind a [] h = refl
count_behind a (r ∷ rs) h = search (rules, covers_tells, count_no, count_behind a rs h.1)

-- ---- rising ranges are apart

pub rise_apart : (rs : List Range) → Rise rs → AreApart rs
rise_apart [] h a = omega arith
rise_apart (r ∷ rs) h a = elim (covers_tells a r) [
  | inl held ↦ let none = count_behind a rs (all_more (λ (q : Range). end_of r ≤ q.address) (λ q. a < q.address) rs (λ q le. omega (arith, held.2)) h.0) in let all = count_yes a r rs held.0 in omega arith
  | inr off ↦ let rest = rise_apart rs h.1 a in let all = count_no a r rs off.0 in omega arith
]

pub rise_from : (rs : List Range) → ((k : ℕ) (d : Range) → k + 1 < length rs → end_of (get_or rs k d) ≤ (get_or rs (k + 1) d).address) → Rise rs
rise_from [] h = tt
rise_from (r ∷ []) h = (tt, tt)
rise_from (r ∷ q ∷ rs) h =
    let next : end_of r ≤ q.address = h 0 r (omega arith) in
    let rest = rise_from (q ∷ rs) (λ k d lt. rw add-one (rw add-one at (h (suc k) d (omega arith)))) in
    ((next, all_more (λ (p : Range). end_of q ≤ p.address) (λ p. end_of r ≤ p.address) rs (λ p le. omega arith) rest.0), rest)

-- ---- neighbours that meet

counts_two : (a : ℕ) (rs : List Range) (k : ℕ) (d : Range) → suc k < length rs → covers a (get_or rs k d) ≡ true → covers a (get_or rs (suc k) d) ≡ true → 1 < cover_count a rs
counts_two a (r ∷ q ∷ rs) zero d lt e f = let one = count_yes a r (q ∷ rs) e in let two = count_yes a q rs f in omega arith
counts_two a (r ∷ q ∷ rs) (suc k) d lt e f = let rest = counts_two a (q ∷ rs) k d (omega arith) e f in let all = count_of a r (q ∷ rs) in omega arith
counts_two a rs k d lt e f = absurd (omega arith)

covered : (a : ℕ) (r : Range) → r.address ≤ a → a < end_of r → covers a r ≡ true
covered a r low high = search (rules, covers_tells)

pub meet_at : (rs : List Range) (k : ℕ) (d : Range) → AllByRecursion (λ (r : Range). 0 < r.len) rs → IsNonDecreasingBy (λ (r : Range). r.address) rs → suc k < length rs → (get_or rs (suc k) d).address < end_of (get_or rs k d) → Meet rs
meet_at rs k d some up lt below =
    let a = (get_or rs (suc k) d).address in
    let low : (get_or rs k d).address ≤ a = up k (suc k) d (omega arith) lt in
    let len = All-from_recursion (λ (r : Range). 0 < r.len) rs some (suc k) d lt in
    (a, counts_two a rs k d lt (covered a (get_or rs k d) low below) (covered a (get_or rs (suc k) d) (omega arith) (omega arith)))

-- ranges that are apart and in order rise
pub apart_rise : (rs : List Range) → AllByRecursion (λ (r : Range). 0 < r.len) rs → IsNonDecreasingBy (λ (r : Range). r.address) rs → AreApart rs → Rise rs
apart_rise rs some up apart = rise_from rs (λ k d lt. elim (cases_lt (get_or rs (k + 1) d).address (end_of (get_or rs k d))) [
  | inl below ↦ let meet = meet_at rs k d some up (omega arith) (rw add-one at below) in let one = apart meet.0 in absurd (omega (arith, meet.1))
  | inr over ↦ over
])

-- ---- the order of ranges is no matter

pub apart_permuted : (xs ys : List Range) → IsPermutation xs ys → AreApart xs → AreApart ys
apart_permuted xs ys p apart a = let same = sum_by-IsPermutation (λ (q : Range). cond (covers a q) 1 0) xs ys p in let one = apart a in omega arith

pub meet_permuted : (xs ys : List Range) → IsPermutation xs ys → Meet ys → Meet xs
meet_permuted xs ys p meet = (meet.0, let same = sum_by-IsPermutation (λ (q : Range). cond (covers meet.0 q) 1 0) xs ys p in omega (arith, meet.1))

coded : Option ℕ → ℕ
coded None = 0
coded (Some b) = suc b

coded_same : (x y : Option ℕ) → coded x ≡ coded y → x ≡ y
unfolding coded
coded_same None None e = refl
coded_same (Some b) (Some c) e = ap Some (omega arith)
coded_same x y e = absurd (omega arith)

weight : List ℕ → ℕ → Range → ℕ
weight bytes a r = cond (covers a r) (coded (byte_of bytes a r)) 0

no_weight : (bytes : List ℕ) (a : ℕ) (rs : List Range) → cover_count a rs ≡ 0 → sum_by (weight bytes a) rs ≡ 0
unfolding weight
no_weight bytes a [] h = refl
no_weight bytes a (r ∷ rs) h = elim (covers_tells a r) [
  | inl held ↦ let one = count_yes a r rs held.0 in absurd (omega arith)
  | inr off ↦ let none = count_no a r rs off.0 in let rest = no_weight bytes a rs (omega arith) in sum_by-cons (weight bytes a) r rs ∙ rw (off.0) (omega arith)
]

held_weight : (bytes : List ℕ) (a : ℕ) (rs : List Range) → cover_count a rs ≤ 1 → sum_by (weight bytes a) rs ≡ coded (byte_among bytes a rs)
unfolding weight coded
held_weight bytes a [] h = refl
held_weight bytes a (r ∷ rs) h = elim (covers_tells a r) [
  | inl held ↦
      let one = count_yes a r rs held.0 in
      let none = no_weight bytes a rs (omega arith) in
      sum_by-cons (weight bytes a) r rs ∙ rw (held.0) (omega arith)
  | inr off ↦ let none = count_no a r rs off.0 in let rest = held_weight bytes a rs (omega arith) in sum_by-cons (weight bytes a) r rs ∙ rw (off.0) (omega arith)
]

pub byte_permuted : (bytes : List ℕ) (a : ℕ) (xs ys : List Range) → IsPermutation xs ys → AreApart xs → byte_among bytes a ys ≡ byte_among bytes a xs
byte_permuted bytes a xs ys p apart =
    coded_same (byte_among bytes a ys) (byte_among bytes a xs)
    (sym (held_weight bytes a ys (apart_permuted xs ys p apart a)) ∙ sum_by-IsPermutation (weight bytes a) xs ys p ∙ held_weight bytes a xs (apart a))

pub all_permuted : (P : Range → Type 0) (xs ys : List Range) → IsPermutation xs ys → AllByRecursion P xs → AllByRecursion P ys
all_permuted P xs ys p h = recursion_from_All P ys (All-permutation P xs ys p (All-from_recursion P xs h))

-- ends that rise in order or not tell whether ranges are apart
pub sorted_tells : (xs ys : List Range) (rise : Bool) → AllByRecursion (λ (r : Range). 0 < r.len) xs → IsPermutation xs ys → IsNonDecreasingBy (λ (r : Range). r.address) ys
    → MatchBool rise ((k : ℕ) (d : Range) → k + 1 < length ys → end_of (get_or ys k d) ≤ (get_or ys (k + 1) d).address) ((k : ℕ) × (k + 1 < length ys) × ((d : Range) → (get_or ys (k + 1) d).address < end_of (get_or ys k d)))
    → MatchBool rise (AreApart xs) (Meet xs)
sorted_tells xs ys true some p up h = apart_permuted ys xs (IsPermutation-sym xs ys p) (rise_apart ys (rise_from ys h))
sorted_tells xs [] false some p up h = absurd (omega (arith, h.1))
sorted_tells xs (y ∷ ys) false some p up h = meet_permuted xs (y ∷ ys) p (meet_at (y ∷ ys) h.0 y (all_permuted (λ (r : Range). 0 < r.len) xs (y ∷ ys) p some) up (omega (arith, h.1)) (rw add-one at (h.2 y)))

-- what is read at places of a list, whatever stands past its end
pub neighbours_at : (rs : List Range) (i : ℕ) (d e : Range) → 1 ≤ i → i < length rs → (get_or rs i e).address < end_of (get_or rs (i - 1) e) → (get_or rs (i - 1 + 1) d).address < end_of (get_or rs (i - 1) d)
neighbours_at rs i d e low lt below = search (rules, get_or_default rs i d e lt, get_or_default rs (i - 1) d e (omega arith))

-- ---- the byte at an address, by the last range that begins at or below it

pub begins_rise : (rs : List Range) → Rise rs → IsNonDecreasingBy (λ (r : Range). r.address) rs
begins_rise [] h i j d le lt = absurd (omega arith)
begins_rise (r ∷ rs) h zero zero d le lt = omega arith
begins_rise (r ∷ rs) h zero (suc j) d le lt = let past = All-from_recursion (λ (q : Range). end_of r ≤ q.address) rs h.0 j d (omega arith) in omega arith
begins_rise (r ∷ rs) h (suc i) zero d le lt = absurd (omega arith)
begins_rise (r ∷ rs) h (suc i) (suc j) d le lt = begins_rise rs h.1 i j d (omega arith) (omega arith)

uncovered : (a : ℕ) (r : Range) → (a < r.address) ⊎ (end_of r ≤ a) → covers a r ≡ false
uncovered a r h = search (rules, covers_tells)

pub none_begun : (bytes : List ℕ) (a : ℕ) (rs : List Range) → ((k : ℕ) (d : Range) → k < length rs → a < (get_or rs k d).address) → byte_among bytes a rs ≡ None
none_begun bytes a [] h = refl
none_begun bytes a (r ∷ rs) h = rw (uncovered a r (inl (h 0 r (omega arith)))) (none_begun bytes a rs (λ k d lt. h (suc k) d (omega arith)))

pub byte_found : (bytes : List ℕ) (a : ℕ) (rs : List Range) (i : ℕ) (d : Range) → Rise rs → i < length rs → (get_or rs i d).address ≤ a → a < end_of (get_or rs i d) → byte_among bytes a rs ≡ byte_of bytes a (get_or rs i d)
byte_found bytes a [] i d h lt low high = absurd (omega arith)
byte_found bytes a (r ∷ rs) zero d h lt low high = rw (covered a r low high) refl
byte_found bytes a (r ∷ rs) (suc i) d h lt low high =
    let past = All-from_recursion (λ (q : Range). end_of r ≤ q.address) rs h.0 i d (omega arith) in
    rw (uncovered a r (inr (omega arith))) (byte_found bytes a rs i d h.1 (omega arith) low high)

pub byte_missing : (bytes : List ℕ) (a : ℕ) (rs : List Range) (i : ℕ) (d : Range) → Rise rs → i < length rs → (get_or rs i d).address ≤ a → end_of (get_or rs i d) ≤ a
    → ((k : ℕ) (e : Range) → i < k → k < length rs → a < (get_or rs k e).address) → byte_among bytes a rs ≡ None
byte_missing bytes a [] i d h lt low high above = absurd (omega arith)
byte_missing bytes a (r ∷ rs) zero d h lt low high above = rw (uncovered a r (inr high)) (none_begun bytes a rs (λ k e l. above (suc k) e (omega arith) (omega arith)))
byte_missing bytes a (r ∷ rs) (suc i) d h lt low high above =
    let past = All-from_recursion (λ (q : Range). end_of r ≤ q.address) rs h.0 i d (omega arith) in
    rw (uncovered a r (inr (omega arith))) (byte_missing bytes a rs i d h.1 (omega arith) low high (λ k e l m. above (suc k) e (omega arith) (omega arith)))

-- an address past all of them has no byte
pub byte_past : (bytes : List ℕ) (a limit : ℕ) (rs : List Range) → AllByRecursion (λ (r : Range). end_of r ≤ limit) rs → limit ≤ a → byte_among bytes a rs ≡ None
byte_past bytes a limit [] h le = refl
byte_past bytes a limit (r ∷ rs) h le = rw (uncovered a r (inr (omega (arith, h.0)))) (byte_past bytes a limit rs h.1 le)

pub have_bytes : (limit room : ℕ) (rs : List Range) → AllByRecursion (IsSoundRange limit room) rs → AllByRecursion (λ (r : Range). 0 < r.len) rs
have_bytes limit room rs h = all_more (IsSoundRange limit room) (λ r. 0 < r.len) rs (λ r is. is.some) h

pub end_below : (limit room : ℕ) (rs : List Range) → AllByRecursion (IsSoundRange limit room) rs → AllByRecursion (λ (r : Range). end_of r ≤ limit) rs
end_below limit room rs h = all_more (IsSoundRange limit room) (λ r. end_of r ≤ limit) rs (λ r is. is.addresses) h

pub byte_here : (limit : ℕ) (bytes : List ℕ) (a : ℕ) (rs : List Range) (i : ℕ) (d : Range) → Rise rs → AllByRecursion (IsSoundRange limit (length bytes)) rs → i < length rs → (get_or rs i d).address ≤ a → a < end_of (get_or rs i d)
    → Some (get_or bytes ((get_or rs i d).place + (a - (get_or rs i d).address)) 0) ≡ byte_among bytes a rs
byte_here limit bytes a rs i d h within lt low high =
    let places = (All-from_recursion (IsSoundRange limit (length bytes)) rs within i d lt).places in
    sym (byte_found bytes a rs i d h lt low high ∙ slice_get-get_or bytes ((get_or rs i d).place + (a - (get_or rs i d).address)) 0 (omega arith))
