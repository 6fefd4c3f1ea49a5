-- A row that was kept, and the registers that were set since: all others have the same rules in both rows.
use Rattle.dw_row.specs.declared.kept_row.KeptRow.{KeptRow}
use Rattle.dw_row.proofs.Words.{◌≡◌, ◌↔◌, ◌||◌, ℕ, suc, ◌+◌, ◌<◌, ◌≤◌, Bool, List, [], ◌∷◌, refl, sym, ap, ◌∙◌, subst, arith, inl, inr, ◌*◌, ◌%◌, ◌^◌, bit_or, nat_eq, IsTrue, Result, OnOk, filter, nat_tests, cases_lt, false, on_ok_weaker}
use Rattle.dw_row.proofs.{Words.{KeptSo, Registers, has, RegRule, Rules, SameValue, AreSpecified, rule_in, put, length, None, DiffersFirst, FirstDifference, SameBetween, CopiedUpTo, SameUnlisted}, Difference.FromOn}
use Rattle.dw_row.proofs.{Lent.{Narrowed.{filter_keeps, filter_rule}, RowLists.{Entry, lower, put_rule, unlisted}, SameRows.one_row}, Slots.{bit_set_other, bit_set_same, cases_bit}}
use Rattle.dw_row.proofs.Words.{Unspecified, bit_at, bit_at-lt, inl, inr, is_specified, rule}
use Rattle.dw_row.specs.RegisterSets.{SpecifiesIn}
use Rattle.std.proofs.lemmas.Nat.Bits.{same_from_bits_below}

-- ---- a register that is put into a set

pub near_added : (near near' b r : ℕ) (far : List Entry) → r < 128 → b ≡ 1 * 2 ^ r % 2 ^ 128 → near' ≡ bit_or near b → (q : ℕ) → has (record { near = near'; far = far }) q ≡ (nat_eq q r || has (record { near = near; far = far }) q)
near_added near near' b r far lt bit is q = rw is (grind (arith, nat_tests, bit_set_same near r b lt bit, bit_set_other near r b lt bit q))

pub far_added : (near r : ℕ) (far far' : List Entry) → 128 ≤ r → AreSpecified 128 far → far' ≡ put r SameValue far → (q : ℕ) → has (record { near = near; far = far' }) q ≡ (nat_eq q r || has (record { near = near; far = far }) q)
far_added near r far far' le up e q = grind (arith, nat_tests, put_rule r SameValue 128 far q up, ap (λ (l : List Entry). rule_in l q) e)

-- a register that is marked may be set
pub marked_so : {X E : Type 0} (result : Result X E) (k : KeptRow) (new : Registers) (r : ℕ) → OnOk result ((q : ℕ) → has new q ≡ (nat_eq q r || has k.changed q))
    → OnOk result ((current : List Entry) (rule : RegRule) → AreSpecified 0 current → KeptSo k current → KeptSo (record { row = k.row; changed = new; watched = k.watched }) (put r rule current))
marked_so result k new r = on_ok_weaker result (λ added current rule up same on q none. grind (arith, nat_tests, added q, none, same on q, put_rule r rule 0 current q up))

-- where it is not watched, any may have been set
pub unwatched : (k : KeptRow) (current : List Entry) → k.watched ≡ false → KeptSo k current
unwatched k current off on = absurd cc

-- ---- both rows

pub kept_exactly : (a b : Rules) (none : Bool) → a.cfa ≡ b.cfa → IsTrue none ↔ (a.registers ≡ b.registers) → IsTrue none ↔ (a ≡ b)
kept_exactly a b none cfa both = ((λ t. one_row a b cfa (both.0 t)), (λ e. both.1 (ap (λ (r : Rules). r.registers) e)))

-- a mask has exactly the registers below 128 that a row specifies
abbrev IsMaskOf : Rules → ℕ → Type 0
IsMaskOf row mask =
    SpecifiesIn mask row
    × ((r : ℕ) → r < 128 → bit_at mask r ≡ 1 → IsTrue (is_specified (rule row r)))

unspecified_not : (rule : RegRule) → rule ≡ Unspecified → IsTrue (is_specified rule) → ⊥
unspecified_not Unspecified is some = absurd cc
unspecified_not rule is some = absurd cc

has_too : (row : Rules) (m n r : ℕ) → IsMaskOf row m → IsMaskOf row n → r < 128 → bit_at m r ≡ 1 → bit_at n r ≡ 1
has_too row m n r own other lt one = elim (cases_bit (bit_at n r) (bit_at-lt n r)) [
  | inl none ↦ absurd (unspecified_not (rule row r) (other.0 r lt none) (own.1 r lt one))
  | inr some ↦ some
]

-- equal rows have one mask
one_mask : (row : Rules) (m n : ℕ) → IsMaskOf row m → IsMaskOf row n → m < 2 ^ 128 → n < 2 ^ 128 → m ≡ n
one_mask row m n own other fits fits' = same_from_bits_below 128 m n fits fits' (λ r lt.
    elim (cases_bit (bit_at m r) (bit_at-lt m r)) [
      | inl none ↦ elim (cases_bit (bit_at n r) (bit_at-lt n r)) [
        | inl none' ↦ none ∙ sym none'
        | inr some ↦ absurd (omega (arith, none, has_too row n m r other own lt some))
      ]
      | inr some ↦ some ∙ sym (has_too row m n r own other lt some)
    ])

pub other_mask : (a b : Rules) (m n : ℕ) → IsMaskOf a m → IsMaskOf b n → m < 2 ^ 128 → n < 2 ^ 128
    → (m ≡ n → ⊥) → a ≡ b → ⊥
other_mask a b m n own other fits fits' ne same =
    ne (one_mask b m n (subst (λ (row : Rules). IsMaskOf row m) same own) other fits fits')

-- ---- copying marked registers

module _ (xs old new : List Entry) (k : ℕ) (h : CopiedUpTo k xs old new) where
  between_copied : (to r : ℕ) → SameBetween k to old xs → r < to → rule_in new r ≡ rule_in xs r
  between_copied to r same lt = grind (arith, h.below r, h.above r, same r)

  pub copied_on : (to : ℕ) → k ≤ to → SameBetween k to old xs → CopiedUpTo to xs old new
  copied_on to le same = record { below = λ r lt. between_copied to r same lt; above = λ r high. h.above r (omega arith) }

  pub copied_next : (q : ℕ) → k ≤ q → SameBetween k q old xs → AreSpecified 0 new → CopiedUpTo (q + 1) xs old (put q (rule_in xs q) new)
  copied_next q le same up = record {
    below = λ r lt. grind (arith, nat_tests, put_rule q (rule_in xs q) 0 new r up, between_copied q r same);
    above = λ r high. grind (arith, nat_tests, put_rule q (rule_in xs q) 0 new r up, h.above r);
  }

pub far_copied : (xs new left rest : List Entry) (q : ℕ) (rule : RegRule) → left ≡ (q, rule) ∷ rest → AreSpecified 0 new → SameUnlisted 0 left new xs → SameUnlisted 0 rest (put q (rule_in xs q) new) xs
far_copied xs new left rest q rule e up same r le none = grind (arith, nat_tests, put_rule q (rule_in xs q) 0 new r up, ap (λ (l : List Entry). rule_in l r) e, same r le)

-- ---- marked registers one after another

module _ (p : Entry → Bool) (from : ℕ) (on : FromOn p from) where
  pub from_ascends : (low : ℕ) (xs : List Entry) → AreSpecified low xs → AreSpecified from (filter p xs)
  from_ascends low [] up = tt
  from_ascends low (x ∷ xs) up = elim (cases_lt x.0 from) [
    | inl lt ↦ let no = (on x).1 lt in rw no (from_ascends (suc x.0) xs up.2)
    | inr ge ↦ let yes = (on x).0 ge in rw yes (ge, up.1, filter_keeps p (suc x.0) xs up.2)
  ]

  pub from_unlisted : (low : ℕ) (far kept row : List Entry) → AreSpecified low far → SameUnlisted from far kept row → SameUnlisted from (filter p far) kept row
  from_unlisted low far kept row up same r le none =
      let yes = (on (r, rule_in far r)).0 le in
      let is : rule_in (filter p far) r ≡ rule_in far r = filter_rule p low far r up ∙ rw yes refl in
      same r le (sym is ∙ none)

-- where none is listed, none differs
pub none_listed : (from : ℕ) (far kept row : List Entry) → length far ≡ 0 → SameUnlisted from far kept row → FirstDifference from kept row None
none_listed from [] kept row none same = λ r le. same r le refl
none_listed from (x ∷ xs) kept row none same = absurd cc

-- the first that is left has another rule, or the same
module _ (from : ℕ) (left rest kept row : List Entry) (q : ℕ) (rule : RegRule) (e : left ≡ (q, rule) ∷ rest) (up : AreSpecified from left) (same : SameUnlisted from left kept row) where
  pub differs_here : (rule_in kept q ≡ rule_in row q → ⊥) → DiffersFirst from kept row q
  differs_here differ =
      let at = subst (AreSpecified from) e up in
      (at.0, (λ r le lt. same r le (unlisted r q left (subst (AreSpecified q) (sym e) (omega arith, at.1, at.2)) lt)), differ)

  pub same_here : rule_in kept q ≡ rule_in row q → AreSpecified from rest × SameUnlisted from rest kept row
  same_here one =
      let at = subst (AreSpecified from) e up in
      let ge : from ≤ q = at.0 in
      (lower (suc q) from rest (omega arith) at.2, λ r le none. grind (arith, nat_tests, ap (λ (l : List Entry). rule_in l r) e, same r le, one))
