-- What is left of a row's registers after a test of each.
use Rattle.dw_row.proofs.Words.{◌≡◌, ℕ, suc, ◌≤◌, Bool, true, false, List, [], ◌∷◌, refl, sym, ap, ◌∙◌, subst, arith, inl, inr, ◌↔◌, if◌then◌else◌, All, filter, nat_eq, not, nat_tests, cases_Bool, Entries, Unspecified, AreSpecified}
use Rattle.dw_row.proofs.Words.{rule_in, put, entries_of, ◌<◌, bit_and, bit_at, EntriesSo, Holds, RegRule, is_kept, is_specified, listed_from, listed_near, left, near_rule, LeavesAt, LeavesBelow, bit_at-lt, bit_at_and}
use Rattle.dw_row.proofs.Slots.{behind_slots, cases_bit, entries_ascend, fewer_holds, is_given, is_set, not_set, row_rule, set_rule, slots_ascend, unset_rule}
use Rattle.dw_row.proofs.Lent.{RowLists.{Entry, lower, unlisted, put_keeps, put_rule}, SameRows.same_entries}
use Rattle.std.proofs.lemmas.List.Elements.{All-head, filter_passes}

-- it ascends as before
pub filter_keeps : (p : Entry → Bool) (low : ℕ) (xs : List Entry) → AreSpecified low xs → AreSpecified low (filter p xs)
filter_keeps p low [] up = tt
filter_keeps p low (x ∷ xs) up = elim (cases_Bool (p x)) [
  | inl e ↦ rw e (up.0, up.1, filter_keeps p (suc x.0) xs up.2)
  | inr e ↦ let first : low ≤ x.0 = up.0 in rw e (lower (suc x.0) low (filter p xs) (omega arith) (filter_keeps p (suc x.0) xs up.2))
]

pub none_left : (p : Entry → Bool) (q : ℕ) → left p q Unspecified ≡ Unspecified
none_left p q = elim (cases_Bool (p (q, Unspecified))) [ inl e ↦ rw e refl | inr e ↦ rw e refl ]

-- a register's rule behind it
pub filter_rule : (p : Entry → Bool) (low : ℕ) (xs : List Entry) (q : ℕ) → AreSpecified low xs → rule_in (filter p xs) q ≡ (if p (q, rule_in xs q) then rule_in xs q else Unspecified)
filter_rule p low [] q up = sym (none_left p q)
filter_rule p low ((k, rule) ∷ xs) q up = grind (arith, nat_tests, filter_rule p (suc k) xs q up.2, unlisted q (suc k) (filter p xs) (filter_keeps p (suc k) xs up.2))

-- a register is taken out, or stays
pub leaves_none : (p : Entry → Bool) (r : ℕ) (old new : List Entry) → p (r, rule_in old r) ≡ false → AreSpecified 0 old → new ≡ put r Unspecified old → LeavesAt p r old new
leaves_none p r old new test up put_out q = grind (arith, nat_tests, put_rule r Unspecified 0 old q up)

-- a register that is taken out is what the test of all others leaves
pub put_out : (r : ℕ) (xs : List Entry) → AreSpecified 0 xs → put r Unspecified xs ≡ filter (λ (x : Entry). not (nat_eq x.0 r)) xs
put_out r xs up =
    let others = λ (x : Entry). not (nat_eq x.0 r) in
    same_entries 0 (put r Unspecified xs) (filter others xs) (put_keeps r Unspecified 0 xs up (omega arith)) (filter_keeps others 0 xs up)
    (λ q. grind (arith, nat_tests, put_rule r Unspecified 0 xs q up, filter_rule others 0 xs q up))

-- ---- a test that leaves all

-- it passes the first
pub first_left : (p : Entry → Bool) (x : Entry) (xs : List Entry) → p x ≡ true → (filter p (x ∷ xs) ≡ x ∷ xs) ↔ (filter p xs ≡ xs)
first_left p x xs e =
    let whole : filter p (x ∷ xs) ≡ x ∷ filter p xs = rw e refl in
    ((λ same. let e' : x ∷ filter p xs ≡ x ∷ xs = sym whole ∙ same in cc), λ same. whole ∙ ap (λ (l : List Entry). x ∷ l) same)

pub first_dropped : (p : Entry → Bool) (x : Entry) (xs : List Entry) → p x ≡ false → filter p (x ∷ xs) ≡ x ∷ xs → ⊥
first_dropped p x xs e same = let passed = All-head (λ y. p y ≡ true) x xs (subst (All (λ y. p y ≡ true)) same (filter_passes p (x ∷ xs))) in absurd cc

-- a test that passes no less leaves all too
pub left_too : (p q : Entry → Bool) (xs : List Entry) → ((x : Entry) → p x ≡ true → q x ≡ true) → filter p xs ≡ xs → filter q xs ≡ xs
left_too p q [] more same = refl
left_too p q (x ∷ xs) more same = elim (cases_Bool (p x)) [
  | inl e ↦ (first_left q x xs (more x e)).1 (left_too p q xs more ((first_left p x xs e).0 same))
  | inr e ↦ absurd (first_dropped p x xs e same)
]

-- ---- the rows of the code

-- slots of which a test left what it does, and the others that it left, are the entries that it leaves
module _ (p : Entry → Bool) (old mid : Entries) (before : EntriesSo old) (so : EntriesSo mid) (below : LeavesBelow p 128 (entries_of old) (entries_of mid)) (far' : List Entry) (is : far' ≡ filter p mid.far.entries) where
  pub far_left : AreSpecified 128 far'
  far_left = subst (AreSpecified 128) (sym is) (filter_keeps p 128 mid.far.entries so.far)

  abbrev pub slots : ℕ → RegRule
  slots = near_rule mid.used mid.slots mid.expressions.entries

  rule_left : (q : ℕ) → rule_in (listed_from 0 128 slots far') q ≡ left p q (rule_in (entries_of old) q)
  rule_left q = grind (arith, nat_tests, below q, filter_rule p 128 mid.far.entries q so.far, row_rule slots far' far_left q, row_rule slots mid.far.entries so.far q)

  pub all_left : listed_from 0 128 slots far' ≡ filter p (entries_of old)
  all_left =
      let up = entries_ascend old before in
      same_entries 0 (listed_from 0 128 slots far') (filter p (entries_of old)) (slots_ascend slots far' far_left) (filter_keeps p 0 (entries_of old) up)
      (λ q. rule_left q ∙ sym (filter_rule p 0 (entries_of old) q up))

-- registers that are taken out of the mask where others have none
module _ (e f : Entries) (so : EntriesSo e) (so' : EntriesSo f) where
  pub both_hold : Holds (bit_and e.used f.used) e.slots e.expressions.entries
  both_hold = fewer_holds e.used (bit_and e.used f.used) e.slots e.expressions.entries so.used (λ q one. omega (arith, one, bit_at_and e.used f.used q, bit_at-lt e.used q, bit_at-lt f.used q))

  kept_near : (q : ℕ) → q < 128 → near_rule (bit_and e.used f.used) e.slots e.expressions.entries q ≡ left (is_kept (entries_of f)) q (rule_in (entries_of e) q)
  kept_near q lt = elim (cases_bit (bit_at e.used q) (bit_at-lt e.used q)) [
    | inl none ↦ unset_rule (bit_and e.used f.used) e.slots e.expressions.entries q (omega (arith, none, bit_at_and e.used f.used q)) ∙ sym (ap (left (is_kept (entries_of f)) q) (not_set e so q lt none) ∙ none_left (is_kept (entries_of f)) q)
    | inr one ↦ elim (cases_bit (bit_at f.used q) (bit_at-lt f.used q)) [
      | inl none ↦
          let out : is_kept (entries_of f) (q, rule_in (entries_of e) q) ≡ false = ap is_specified (not_set f so' q lt none) in
          unset_rule (bit_and e.used f.used) e.slots e.expressions.entries q (omega (arith, none, bit_at_and e.used f.used q)) ∙ sym (rw out refl)
      | inr both ↦
          let stays : is_kept (entries_of f) (q, rule_in (entries_of e) q) ≡ true = is_given f so' q lt both in
          set_rule (bit_and e.used f.used) e.slots e.expressions.entries q (omega (arith, one, both, bit_at_and e.used f.used q)) ∙ sym (is_set e so q lt one) ∙ sym (rw stays refl)
    ]
  ]

  pub kept_below : LeavesBelow (is_kept (entries_of f)) 128 (entries_of e) (listed_near 0 (bit_and e.used f.used) e.slots e.expressions.entries e.far.entries)
  kept_below q = grind (arith, nat_tests, row_rule (near_rule (bit_and e.used f.used) e.slots e.expressions.entries) e.far.entries so.far q, kept_near q, behind_slots e so q)
