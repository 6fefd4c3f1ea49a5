-- Registers in slots: what is set in one register's slot is what setting that register leaves.
use Rattle.dw_row.proofs.Words.{if◌then◌else◌, nat_lt, ◌≡◌, ◌⊎◌, Bool, true, false, inl, inr, cases_Bool, cases_eq, cases_lt, ℕ, zero, suc, ◌+◌, ◌<◌, ◌≤◌, cond, Some, None, List, [], ◌∷◌, length, refl, sym, ap, ◌∙◌, subst, arith}
use Rattle.dw_row.proofs.Words.{get_or-set_same, get_or-set_other, nat_tests, IsTrue, nat_eq, ◌-◌, ◌*◌, ◌/◌, ◌%◌, ◌^◌, bit_or, bit_and, bit_at, bit_not, trailing_zeros, w64, w128, Option, not, div-le_self, bit_at-zero, bit_at_above}
use Rattle.dw_row.proofs.Words.{bit_at-trailing_zeros, bit_at_set_same, bit_at_set_other, bit_at_clear_other, bit_at_clear_same, bit_at_or, Entries, RegRule, Slot, Unspecified, is_specified, AreSpecified, rule_in, listed, put, EntriesSo}
use Rattle.dw_row.proofs.Words.{entries_of, kind_rule, set_at, slot_at, slot_rule, listed_from, listed_near, near_rule, rule_if, FirstBit, FirstIn, HasRoom, HasSlot, Holds, IsSlotOf, NoneHasSlot, Slots, ℤ, pos, pow-add, shr-shr, bit_at-lt}
use Rattle.dw_row.proofs.{Words.{bit_at_and, bit_at_cat_low}, Lent.{RowLists.{Entry, lower, listed_is, listed_keeps, listed_rule, other_rule, put_keeps, put_rule, same_rule_set, unlisted}, SameRows.{first_rule, same_entries}}}
use Rattle.std.proofs.{Common.ap₂, lemmas.{List.nil_from_length, Nat.{and_block, and_le_l, one_shl, or_shifted, Bits.{bit_at-suc, bit_at_lowest}}}}
use Rattle.dw_row.specs.InPlace.{IsPlain}
use Rattle.dw_row.specs.declared.slot.Slot.TheVariants as slots
use Rattle.dw_row.specs.declared.rule.RegRule.TheVariants as rules
use lib.Bits.{and_self}

-- ---- registers from one on, and those behind them

pub from_ascends : (k n : ℕ) (f : ℕ → RegRule) (far : List Entry) (m : ℕ) → k + n ≤ m → AreSpecified m far → AreSpecified k (listed_from k n f far)
unfolding listed_from
from_ascends k zero f far m le up = lower m k far (omega arith) up
from_ascends k (suc n) f far m le up = listed_keeps k (f k) k (listed_from (suc k) n f far) (from_ascends (suc k) n f far m (omega arith) up) (omega arith)

pub rule_from : (k n : ℕ) (f : ℕ → RegRule) (far : List Entry) (m : ℕ) → k + n ≤ m → AreSpecified m far → (q : ℕ)
    → rule_in (listed_from k n f far) q ≡ (if nat_lt q k then Unspecified else (if nat_lt q (k + n) then f q else rule_in far q))
unfolding listed_from
rule_from k zero f far m le up q = grind (arith, nat_tests, unlisted q m far up)
rule_from k (suc n) f far m le up q =
    let here = listed_rule k (f k) q (listed_from (suc k) n f far) (from_ascends (suc k) n f far m (omega arith) up) in
    grind (arith, nat_tests, here, rule_from (suc k) n f far m (omega arith) up q)

-- ---- all registers

module _ (f : ℕ → RegRule) (far : List Entry) (up : AreSpecified 128 far) where
  pub slots_ascend : AreSpecified 0 (listed_from 0 128 f far)
  slots_ascend = from_ascends 0 128 f far 128 (omega arith) up

  pub row_rule : (q : ℕ) → rule_in (listed_from 0 128 f far) q ≡ (if nat_lt q 128 then f q else rule_in far q)
  row_rule q = grind (arith, nat_tests, rule_from 0 128 f far 128 (omega arith) up q)

  pub near_is : (q : ℕ) → q < 128 → rule_in (listed_from 0 128 f far) q ≡ f q
  near_is q lt = grind (arith, nat_tests, row_rule q)

  pub far_is : (q : ℕ) → 128 ≤ q → rule_in (listed_from 0 128 f far) q ≡ rule_in far q
  far_is q le = grind (arith, nat_tests, row_rule q)

pub entries_ascend : (e : Entries) → EntriesSo e → AreSpecified 0 (entries_of e)
entries_ascend e so = slots_ascend (near_rule e.used e.slots e.expressions.entries) e.far.entries so.far

pub slot_rule_is : (e : Entries) → EntriesSo e → (q : ℕ) → q < 128 → rule_in (entries_of e) q ≡ near_rule e.used e.slots e.expressions.entries q
slot_rule_is e so q lt = near_is (near_rule e.used e.slots e.expressions.entries) e.far.entries so.far q lt

pub behind_slots : (e : Entries) → EntriesSo e → (q : ℕ) → 128 ≤ q → rule_in (entries_of e) q ≡ rule_in e.far.entries q
behind_slots e so q le = far_is (near_rule e.used e.slots e.expressions.entries) e.far.entries so.far q le

-- a tree that has an entry gives a register from 128 on a rule, and one that has none gives none
far_given : (xs : List Entry) → AreSpecified 128 xs → 0 < length xs → (r : ℕ) × (128 ≤ r) × IsTrue (is_specified (rule_in xs r))
far_given [] up some = absurd (omega (arith, some))
far_given (x ∷ xs) up some = (x.0, up.0, subst (λ (rule : RegRule). IsTrue (is_specified rule)) (sym (first_rule x xs)) up.1)

pub first_far : (e : Entries) → EntriesSo e → 0 < length e.far.entries → (r : ℕ) × (128 ≤ r) × IsTrue (is_specified (rule_in (entries_of e) r))
first_far e so some =
    let given = far_given e.far.entries so.far some in
    (given.0, given.1, subst (λ (rule : RegRule). IsTrue (is_specified rule)) (sym (behind_slots e so given.0 given.1)) given.2)

pub none_far : (e : Entries) → EntriesSo e → length e.far.entries ≡ 0 → (r : ℕ) → 128 ≤ r → rule_in (entries_of e) r ≡ Unspecified
none_far e so none r le = behind_slots e so r le ∙ ap (λ (xs : List Entry). rule_in xs r) (nil_from_length e.far.entries none)

pub put_so : (r low : ℕ) (rule : RegRule) (old new : List Entry) → new ≡ put r rule old → AreSpecified low old → low ≤ r → AreSpecified low new
put_so r low rule old new is up le = subst (AreSpecified low) (sym is) (put_keeps r rule low old up le)

-- a rule more beside the slots
pub more_beside : (r : ℕ) (rule : RegRule) (old new : List Entry) → new ≡ put r rule old → AreSpecified 0 old → NoneHasSlot old → (HasSlot rule → ⊥) → NoneHasSlot new
more_beside r rule old new is up none without q = rw (is, put_rule r rule 0 old q up) (elim (cases_Bool (nat_eq r q)) [ inl e ↦ rw e without | inr e ↦ rw e (none q) ])

-- a list in which a register has a rule, and all others keep theirs
pub is_put : (r : ℕ) (rule : RegRule) (old new : List Entry) → AreSpecified 0 old → AreSpecified 0 new → ((q : ℕ) → rule_in new q ≡ cond (nat_eq r q) rule (rule_in old q)) → new ≡ put r rule old
is_put r rule old new up up' is = same_entries 0 new (put r rule old) up' (put_keeps r rule 0 old up (omega arith)) (λ q. is q ∙ sym (put_rule r rule 0 old q up))

module _ (f g : ℕ → RegRule) (far : List Entry) (up : AreSpecified 128 far) where
  pub rules_put : (r : ℕ) (rule : RegRule) → r < 128 → g r ≡ rule → ((q : ℕ) → q < 128 → (q ≡ r → ⊥) → g q ≡ f q) → listed_from 0 128 g far ≡ put r rule (listed_from 0 128 f far)
  rules_put r rule lt is others =
      is_put r rule (listed_from 0 128 f far) (listed_from 0 128 g far) (slots_ascend f far up) (slots_ascend g far up) (λ q.
      grind (arith, nat_tests, row_rule g far up q, row_rule f far up q, others q, is))

-- a rule is set behind the slots
pub far_set : (f : ℕ → RegRule) (far : List Entry) (r : ℕ) (rule : RegRule) (far' : List Entry) → AreSpecified 128 far → 128 ≤ r → far' ≡ put r rule far → listed_from 0 128 f far' ≡ put r rule (listed_from 0 128 f far)
far_set f far r rule far' up le is =
    let up' = put_so r 128 rule far far' is up le in
    is_put r rule (listed_from 0 128 f far) (listed_from 0 128 f far') (slots_ascend f far up) (slots_ascend f far' up') (λ q.
    grind (arith, nat_tests, is, row_rule f far' up' q, row_rule f far up q, put_rule r rule 128 far q up))

pub ruleset far_put = (entries_ascend, far_set, put_so)

-- ---- a slot under the mask

pub unset_rule : (used : ℕ) (near : Slots) (expressions : List Entry) (q : ℕ) → bit_at used q ≡ 0 → near_rule used near expressions q ≡ Unspecified
unset_rule used near expressions q none = ap (λ (n : ℕ). rule_if n (slot_at near q) (rule_in expressions q)) none

pub set_rule : (used : ℕ) (near : Slots) (expressions : List Entry) (q : ℕ) → bit_at used q ≡ 1 → near_rule used near expressions q ≡ slot_rule (slot_at near q) (rule_in expressions q)
set_rule used near expressions q one = ap (λ (n : ℕ). rule_if n (slot_at near q) (rule_in expressions q)) one

-- a register whose bit is not set has no rule
pub not_set : (e : Entries) → EntriesSo e → (q : ℕ) → q < 128 → bit_at e.used q ≡ 0 → rule_in (entries_of e) q ≡ Unspecified
not_set e so q lt none = slot_rule_is e so q lt ∙ unset_rule e.used e.slots e.expressions.entries q none

-- and one whose bit is set has its slot's
pub is_set : (e : Entries) → EntriesSo e → (q : ℕ) → q < 128 → bit_at e.used q ≡ 1 → rule_in (entries_of e) q ≡ slot_rule (slot_at e.slots q) (rule_in e.expressions.entries q)
is_set e so q lt one = slot_rule_is e so q lt ∙ set_rule e.used e.slots e.expressions.entries q one

pub is_given : (e : Entries) → EntriesSo e → (q : ℕ) → q < 128 → bit_at e.used q ≡ 1 → IsTrue (is_specified (rule_in (entries_of e) q))
is_given e so q lt one = subst (λ (rule : RegRule). IsTrue (is_specified rule)) (sym (slot_rule_is e so q lt)) (so.used q one)

-- a test of the mask
pub not_in : (n q : ℕ) (b : Bool) → b ≡ nat_eq (bit_at n q) 1 → b ≡ false → bit_at n q ≡ 0
not_in n q b is e = grind (arith, nat_tests, is, e, bit_at-lt n q)

pub one_in : (n q : ℕ) (b : Bool) → b ≡ nat_eq (bit_at n q) 1 → b ≡ true → bit_at n q ≡ 1
one_in n q b is e = grind (arith, nat_tests, is, e)

-- a rule without an expression has a slot
pub not_plain : (rule : RegRule) → (HasSlot rule → ⊥) → IsTrue (is_specified rule) → IsPlain rule → ⊥
not_plain rules.Unspecified none some plain = absurd cc
not_plain (rules.Expression e) none some plain = plain
not_plain (rules.ValExpression e) none some plain = plain
not_plain rule none some plain = none tt

pub ruleset looked_up = (is_given, is_set, not_in, not_set, one_in)

-- no register is held by an empty mask
pub none_hold : (near : Slots) (expressions : List Entry) → Holds 0 near expressions
none_hold near expressions q one = absurd (omega (arith, one, bit_at-zero q))

pub none_listed : (near : Slots) (expressions far : List Entry) → far ≡ [] → listed_near 0 0 near expressions far ≡ []
none_listed near expressions far none =
    let f = near_rule 0 near expressions in let e = ap (λ (l : List Entry). listed_from 0 128 f l) none in
    e ∙ same_entries 0 (listed_from 0 128 f []) [] (slots_ascend f [] tt) tt (λ q. row_rule f [] tt q ∙ grind (arith, nat_tests, unset_rule 0 near expressions q (bit_at-zero q)))

-- ---- one bit of a mask

pub cases_bit : (n : ℕ) → n < 2 → (n ≡ 0) ⊎ (n ≡ 1)
cases_bit n lt = elim (cases_eq n 0) [ inl e ↦ inl e | inr ne ↦ inr (grind (arith, ne, lt)) ]

-- the bit of a register, by halves
pub low_bit : (r : ℕ) → r < 64 → 1 * 2 ^ r % 2 ^ 64 ≡ 1 * 2 ^ r % 2 ^ 128
low_bit r lt = one_shl r 64 lt ∙ sym (one_shl r 128 (omega arith))

pub high_bit : (r : ℕ) → 64 ≤ r → r < 128 → (1 * 2 ^ (r - 64) % 2 ^ 64) * 2 ^ 64 % 2 ^ 128 ≡ 1 * 2 ^ r % 2 ^ 128
high_bit r le lt =
    let at : (r - 64) + 64 ≡ r = omega arith in
    let whole : 2 ^ (r - 64) * 2 ^ 64 ≡ 2 ^ r = sym (pow-add 2 (r - 64) 64) ∙ ap (λ (n : ℕ). 2 ^ n) at in
    let one : 2 ^ r ≡ 1 * 2 ^ r = omega arith in
    ap (λ (n : ℕ). n * 2 ^ 64 % 2 ^ 128) (one_shl (r - 64) 64 (omega arith)) ∙ ap (λ (n : ℕ). n % 2 ^ 128) (whole ∙ one)

module _ (n r b : ℕ) (lt : r < 128) (bit : b ≡ 1 * 2 ^ r % 2 ^ 128) where
  pub bit_set_same : bit_at (bit_or n b) r ≡ 1
  bit_set_same = ap (λ (m : ℕ). bit_at (bit_or n m) r) bit ∙ bit_at_set_same w128 n r lt

  pub bit_set_other : (q : ℕ) → (q ≡ r → ⊥) → bit_at (bit_or n b) q ≡ bit_at n q
  bit_set_other q ne = ap (λ (m : ℕ). bit_at (bit_or n m) q) bit ∙ bit_at_set_other w128 n r lt q ne

  pub bit_clear_same : bit_at (bit_and n (bit_not w128 b)) r ≡ 0
  bit_clear_same = ap (λ (m : ℕ). bit_at (bit_and n (bit_not w128 m)) r) bit ∙ bit_at_clear_same w128 n r lt

  pub bit_clear_other : (q : ℕ) → q < 128 → (q ≡ r → ⊥) → bit_at (bit_and n (bit_not w128 b)) q ≡ bit_at n q
  bit_clear_other q low ne = ap (λ (m : ℕ). bit_at (bit_and n (bit_not w128 m)) q) bit ∙ bit_at_clear_other w128 n r lt q low ne

-- ---- a slot that is set

pub at_set : (near : Slots) (r : ℕ) (s : Slot × ℤ) → HasRoom near → r < 128 → slot_at (set_at near r s) r ≡ s
at_set near r s room lt =
    ap₂ (λ (kind : Slot) (n : ℤ). (kind, n)) (get_or-set_same near.kinds r s.0 slots.Undefined (omega (arith, lt, room.0))) (get_or-set_same near.numbers r s.1 (pos 0) (omega (arith, lt, room.1)))

pub at_set_other : (near : Slots) (r q : ℕ) (s : Slot × ℤ) → (q ≡ r → ⊥) → slot_at (set_at near r s) q ≡ slot_at near q
at_set_other near r q s ne = ap₂ (λ (kind : Slot) (n : ℤ). (kind, n)) (get_or-set_other near.kinds r q s.0 slots.Undefined ne) (get_or-set_other near.numbers r q s.1 (pos 0) ne)

module _ (used : ℕ) (near : Slots) (expressions expressions' : List Entry) (r : ℕ) (s : Slot × ℤ) (lt : r < 128) (b : ℕ) (bit : b ≡ 1 * 2 ^ r % 2 ^ 128) (room : HasRoom near)
    (others : (q : ℕ) → (q ≡ r → ⊥) → rule_in expressions' q ≡ rule_in expressions q) where
  pub put_rule_is : near_rule (bit_or used b) (set_at near r s) expressions' r ≡ slot_rule s (rule_in expressions' r)
  put_rule_is = set_rule (bit_or used b) (set_at near r s) expressions' r (bit_set_same used r b lt bit) ∙ ap (λ (x : Slot × ℤ). slot_rule x (rule_in expressions' r)) (at_set near r s room lt)

  pub other_rule_is : (q : ℕ) → (q ≡ r → ⊥) → near_rule (bit_or used b) (set_at near r s) expressions' q ≡ near_rule used near expressions q
  other_rule_is q ne =
      ap (λ (n : ℕ). rule_if n (slot_at (set_at near r s) q) (rule_in expressions' q)) (bit_set_other used r b lt bit q ne)
      ∙ ap (λ (x : Slot × ℤ). rule_if (bit_at used q) x (rule_in expressions' q)) (at_set_other near r q s ne)
      ∙ ap (rule_if (bit_at used q) (slot_at near q)) (others q ne)

  pub put_holds : Holds used near expressions → IsTrue (is_specified (slot_rule s (rule_in expressions' r))) → Holds (bit_or used b) (set_at near r s) expressions'
  put_holds holds given q one = elim (cases_eq q r) [
    | inl e ↦ subst (λ (n : ℕ). IsTrue (is_specified (near_rule (bit_or used b) (set_at near r s) expressions' n))) (sym e) (subst (λ (rule : RegRule). IsTrue (is_specified rule)) (sym put_rule_is) given)
    | inr ne ↦
        subst (λ (rule : RegRule). IsTrue (is_specified rule)) (sym (other_rule_is q ne)) (holds q (sym (bit_set_other used r b lt bit q ne) ∙ one))
  ]

-- ---- as the code sets them

plain_given : (kind : Slot) (n : ℤ) (block : RegRule) → (kind ≡ slots.Beside → ⊥) → IsTrue (is_specified (kind_rule kind n block))
plain_given slots.Beside n block not = absurd (not refl)
plain_given kind n block not = refl

module _ (e : Entries) (so : EntriesSo e) (r : ℕ) (s : Slot × ℤ) (new : Slots) (lt : r < 128) (b : ℕ) (bit : b ≡ 1 * 2 ^ r % 2 ^ 128) (stored : new ≡ set_at e.slots r s) where
  abbrev with_bit : ℕ
  with_bit = bit_or e.used b

  module _ (expressions' : List Entry) (stay : (q : ℕ) → (q ≡ r → ⊥) → rule_in expressions' q ≡ rule_in e.expressions.entries q) where
    slot_put : (rule : RegRule) → slot_rule s (rule_in expressions' r) ≡ rule → listed_near 0 with_bit new expressions' e.far.entries ≡ put r rule (entries_of e)
    slot_put rule here =
        let x = e.expressions.entries in
        ap (λ (l : Slots). listed_near 0 with_bit l expressions' e.far.entries) stored
        ∙ rules_put (near_rule e.used e.slots x) (near_rule with_bit (set_at e.slots r s) expressions') e.far.entries so.far r rule lt
        (put_rule_is e.used e.slots x expressions' r s lt b bit so.slots stay ∙ here)
        (λ q low. other_rule_is e.used e.slots x expressions' r s lt b bit so.slots stay q)

    slot_holds : IsTrue (is_specified (slot_rule s (rule_in expressions' r))) → Holds with_bit new expressions'
    slot_holds given = subst (λ (l : Slots). Holds with_bit l expressions') (sym stored) (put_holds e.used e.slots e.expressions.entries expressions' r s lt b bit so.slots stay so.used given)

  pub plain_put : (rule : RegRule) → IsSlotOf rule s → listed_near 0 (bit_or e.used b) new e.expressions.entries e.far.entries ≡ put r rule (entries_of e)
  plain_put rule is = slot_put e.expressions.entries (λ q ne. refl) rule (is (rule_in e.expressions.entries r))

  pub plain_holds : (s.0 ≡ slots.Beside → ⊥) → Holds (bit_or e.used b) new e.expressions.entries
  plain_holds not = slot_holds e.expressions.entries (λ q ne. refl) (plain_given s.0 s.1 (rule_in e.expressions.entries r) not)

-- and a rule beside its slot
module _ (e : Entries) (so : EntriesSo e) (r : ℕ) (n : ℤ) (new : Slots) (lt : r < 128) (b : ℕ) (bit : b ≡ 1 * 2 ^ r % 2 ^ 128) (stored : new ≡ set_at e.slots r (slots.Beside, n)) (rule : RegRule) (expressions' : List Entry)
    (put_in : expressions' ≡ put r rule e.expressions.entries) where
  others : (q : ℕ) → (q ≡ r → ⊥) → rule_in expressions' q ≡ rule_in e.expressions.entries q
  others q ne = rw put_in (other_rule r q rule e.expressions.entries so.expressions ne)

  here : rule_in expressions' r ≡ rule
  here = rw put_in (same_rule_set r r rule e.expressions.entries so.expressions refl)

  pub expression_put : listed_near 0 (bit_or e.used b) new expressions' e.far.entries ≡ put r rule (entries_of e)
  expression_put = slot_put e so r (slots.Beside, n) new lt b bit stored expressions' others rule here

  pub expression_holds : IsTrue (is_specified rule) → Holds (bit_or e.used b) new expressions'
  expression_holds given = slot_holds e so r (slots.Beside, n) new lt b bit stored expressions' others (subst (λ (x : RegRule). IsTrue (is_specified x)) (sym here) given)

pub ruleset kept_beside = (expression_put, expression_holds, more_beside, put_so)

-- ---- registers that are taken out of the mask

-- a mask with fewer bits
module _ (used used' : ℕ) (near : Slots) (expressions : List Entry) (holds : Holds used near expressions) (fewer : (q : ℕ) → bit_at used' q ≡ 1 → bit_at used q ≡ 1) where
  pub fewer_rule : (q : ℕ) → bit_at used' q ≡ 1 → near_rule used' near expressions q ≡ near_rule used near expressions q
  fewer_rule q one = set_rule used' near expressions q one ∙ sym (set_rule used near expressions q (fewer q one))

  pub fewer_holds : Holds used' near expressions
  fewer_holds q one = subst (λ (rule : RegRule). IsTrue (is_specified rule)) (sym (fewer_rule q one)) (holds q (fewer q one))

module _ (e : Entries) (so : EntriesSo e) (r : ℕ) (lt : r < 128) (b : ℕ) (bit : b ≡ 1 * 2 ^ r % 2 ^ 128) where
  abbrev dropped : ℕ
  dropped = bit_and e.used (bit_not w128 b)

  pub dropped_put : listed_near 0 (bit_and e.used (bit_not w128 b)) e.slots e.expressions.entries e.far.entries ≡ put r Unspecified (entries_of e)
  dropped_put =
      let x = e.expressions.entries in let near = e.slots in
      rules_put (near_rule e.used near x) (near_rule dropped near x) e.far.entries so.far r Unspecified lt (unset_rule dropped near x r (bit_clear_same e.used r b lt bit))
      (λ q low ne. ap (λ (n : ℕ). rule_if n (slot_at near q) (rule_in x q)) (bit_clear_other e.used r b lt bit q low ne))

  pub dropped_holds : Holds (bit_and e.used (bit_not w128 b)) e.slots e.expressions.entries
  dropped_holds = fewer_holds e.used dropped e.slots e.expressions.entries so.used (λ q one. omega (arith, one, bit_at_and e.used (bit_not w128 b) q, bit_at-lt e.used q))

-- ---- the registers one after another

shifted : (n k j : ℕ) → bit_at (n / 2 ^ k) j ≡ bit_at n (k + j)
shifted n k j = ap (λ (m : ℕ). m % 2) (shr-shr n k j)

-- a bit above a place lies in its half
bit_inside : (half k n : ℕ) → half < 2 ^ 64 → bit_at (half / 2 ^ k) n ≡ 1 → k + n < 64
bit_inside half k n fits one = grind (arith, bit_at_above half 64 (k + n) fits, shifted half k n)

-- no bit is left from a place on
pub no_bits : (n k : ℕ) → n / 2 ^ k ≡ 0 → (q : ℕ) → k ≤ q → bit_at n q ≡ 0
no_bits n k none q le = let at : q ≡ k + (q - k) = omega arith in ap (bit_at n) at ∙ sym (shifted n k (q - k)) ∙ ap (λ (m : ℕ). bit_at m (q - k)) none ∙ bit_at-zero (q - k)

-- the lowest bit that is left
pub lowest_bit : (n k : ℕ) → n < 2 ^ 64 → 0 < n / 2 ^ k → FirstIn 64 (Some (k + trailing_zeros w64 (n / 2 ^ k))) n k
lowest_bit n k fits some =
    let within : n / 2 ^ k < 2 ^ 64 = omega (arith, div-le_self n (2 ^ k)) in
    let j = trailing_zeros w64 (n / 2 ^ k) in
    let z = bit_at-trailing_zeros w64 (n / 2 ^ k) some within in
    (omega arith, bit_inside n k j fits z.1, sym (shifted n k j) ∙ z.1, λ q low high. let at : q ≡ k + (q - k) = omega arith in ap (bit_at n) at ∙ sym (shifted n k (q - k)) ∙ z.2 (q - k) (omega arith))

-- a mask and its halves
pub low_half : (n q : ℕ) → q < 64 → bit_at (n % 2 ^ 64) q ≡ bit_at n q
low_half n q lt =
    let whole : n ≡ n / 2 ^ 64 * 2 ^ 64 + n % 2 ^ 64 = omega arith in sym (ap (λ (m : ℕ). bit_at m q) whole ∙ bit_at_cat_low (n / 2 ^ 64) 64 (n % 2 ^ 64) q lt)

pub high_half : (n q : ℕ) → bit_at (n / 2 ^ 64) q ≡ bit_at n (64 + q)
high_half n q = shifted n 64 q

pub none_high : (n k : ℕ) → 64 ≤ k → FirstIn 64 None (n / 2 ^ 64) (k - 64) → FirstIn 128 None n k
none_high n k le none q low high = let at : q ≡ 64 + (q - 64) = omega arith in ap (bit_at n) at ∙ sym (high_half n (q - 64)) ∙ none (q - 64) (omega arith) (omega arith)

pub first_high : (n k r : ℕ) → 64 ≤ k → FirstIn 64 (Some r) (n / 2 ^ 64) (k - 64) → FirstIn 128 (Some (r + 64)) n k
first_high n k r le first =
    let there : 64 + r ≡ r + 64 = omega arith in (
      omega (arith, first.0),
      omega (arith, first.1),
      sym (high_half n r ∙ ap (bit_at n) there) ∙ first.2,
      λ q low high. let at : q ≡ 64 + (q - 64) = omega arith in ap (bit_at n) at ∙ sym (high_half n (q - 64)) ∙ first.3 (q - 64) (omega arith) (omega arith),
    )

pub first_low : (n k r : ℕ) → FirstIn 64 (Some r) (n % 2 ^ 64) k → FirstIn 128 (Some r) n k
first_low n k r first = (first.0, omega (arith, first.1), sym (low_half n r first.1) ∙ first.2, λ q low high. sym (low_half n q (omega (arith, high, first.1))) ∙ first.3 q low high)

pub both_halves : (n k : ℕ) (o : Option ℕ) → k < 64 → FirstIn 64 None (n % 2 ^ 64) k → FirstIn 128 o n 64 → FirstIn 128 o n k
both_halves n k None lt none rest = λ q low high. elim (cases_lt q 64) [ inl below ↦ sym (low_half n q below) ∙ none q low below | inr above ↦ rest q above high ]
both_halves n k (Some r) lt none rest = (
  omega (arith, lt, rest.0),
  rest.1,
  rest.2,
  λ q low high. elim (cases_lt q 64) [ inl below ↦ sym (low_half n q below) ∙ none q low below | inr above ↦ rest.3 q above high ],
)

-- a mask without its first bit, by halves
pub low_taken : (n : ℕ) → n < 2 ^ 128 → 0 < n % 2 ^ 64 → bit_or (n / 2 ^ 64 * 2 ^ 64 % 2 ^ 128) (bit_and (n % 2 ^ 64) (n % 2 ^ 64 - 1)) ≡ bit_and n (n - 1)
low_taken n fits some =
    let h = n / 2 ^ 64 in let l = n % 2 ^ 64 in let x = bit_and l (l - 1) in
    let high : h * 2 ^ 64 % 2 ^ 128 ≡ h * 2 ^ 64 = omega arith in
    let whole : n ≡ h * 2 ^ 64 + l = omega arith in
    let less : n - 1 ≡ h * 2 ^ 64 + (l - 1) = omega arith in
    ap (λ (m : ℕ). bit_or m x) high ∙ or_shifted h 64 x (omega (arith, and_le_l l (l - 1))) ∙ ap (λ (m : ℕ). m * 2 ^ 64 + x) (sym (and_self h))
    ∙ sym (ap₂ bit_and whole less ∙ and_block 64 h h l (l - 1) (omega arith) (omega arith))

pub high_taken : (n : ℕ) → n < 2 ^ 128 → n % 2 ^ 64 ≡ 0 → bit_and (n / 2 ^ 64) ((n / 2 ^ 64 + (2 ^ 64 - 1)) % 2 ^ 64) * 2 ^ 64 % 2 ^ 128 ≡ bit_and n (n - 1)
high_taken n fits none =
    let h = n / 2 ^ 64 in let m = (h + (2 ^ 64 - 1)) % 2 ^ 64 in let ones : ℕ = 2 ^ 64 - 1 in
    let within = and_le_l h m in
    elim (cases_eq h 0) [
      | inl e ↦ omega (arith, e, none, within, and_le_l n (n - 1))
      | inr ne ↦
          let whole : n ≡ h * 2 ^ 64 + 0 = omega arith in
          let less : n - 1 ≡ m * 2 ^ 64 + ones = omega arith in
          omega (arith, within, ap₂ bit_and whole less ∙ and_block 64 h m 0 ones (omega arith) (omega arith), and_le_l 0 ones)
    ]

-- one less than a number has the bits behind the number's first one, and not that one
half_bit : (n q : ℕ) → 0 < q → bit_at n q ≡ bit_at (n / 2) (q - 1)
half_bit n q some = let at : q ≡ suc (q - 1) = omega arith in ap (bit_at n) at ∙ bit_at-suc n (q - 1)

less_bits : (t n : ℕ) → bit_at n t ≡ 1 → ((i : ℕ) → 0 ≤ i → i < t → bit_at n i ≡ 0) → (bit_at (n - 1) t ≡ 0) × ((q : ℕ) → t < q → bit_at (n - 1) q ≡ bit_at n q)
less_bits zero n one none =
    let half : (n - 1) / 2 ≡ n / 2 = omega (arith, one, bit_at_lowest n) in
    (omega (arith, one, bit_at_lowest n, bit_at_lowest (n - 1)), λ q lt. half_bit (n - 1) q lt ∙ ap (λ (m : ℕ). bit_at m (q - 1)) half ∙ sym (half_bit n q lt))
less_bits (suc t) n one none =
    let half : (n - 1) / 2 ≡ n / 2 - 1 = omega (arith, none 0 (omega arith) (omega arith), bit_at_lowest n) in
    let rest = less_bits t (n / 2) (sym (bit_at-suc n t) ∙ one) (λ i low lt. sym (bit_at-suc n i) ∙ none (suc i) (omega arith) (omega (arith, lt))) in
    let at = λ (q : ℕ). ap (λ (m : ℕ). bit_at m q) half in
    (bit_at-suc (n - 1) t ∙ at t ∙ rest.0, λ q lt. half_bit (n - 1) q (omega arith) ∙ at (q - 1) ∙ rest.1 (q - 1) (omega arith) ∙ sym (half_bit n q (omega arith)))

pub rest_bit : (n r : ℕ) → FirstBit (Some r) n 0 → (q : ℕ) → bit_at (bit_and n (n - 1)) q ≡ (if nat_lt r q then bit_at n q else 0)
rest_bit n r first q = let less = less_bits r n first.2 first.3 in grind (arith, nat_tests, bit_at_and n (n - 1) q, first.3 q, less.0, less.1 q)

-- a bit that neither of two masks has
pub neither : (m n q : ℕ) → bit_at (bit_or m n) q ≡ 0 → (bit_at m q ≡ 0) × (bit_at n q ≡ 0)
neither m n q none = let e = sym (bit_at_or m n q) ∙ none in (omega (arith, e), omega (arith, e))

-- registers without a rule are passed over
skip_many : (j k m c n : ℕ) (f : ℕ → RegRule) (far : List Entry) → k + j ≡ m → c ≡ j + n → ((q : ℕ) → k ≤ q → q < m → f q ≡ Unspecified) → listed_from k c f far ≡ listed_from m n f far
unfolding listed_from
skip_many zero k m c n f far e e' none = let at : k ≡ m = omega arith in let count : c ≡ n = omega arith in ap (λ (x : ℕ). listed_from x c f far) at ∙ ap (λ (x : ℕ). listed_from m x f far) count
skip_many (suc j) k m zero n f far e e' none = absurd (omega arith)
skip_many (suc j) k m (suc c) n f far e e' none =
    ap (λ (x : RegRule). listed k x (listed_from (suc k) c f far)) (none k (omega arith) (omega arith)) ∙ skip_many j (suc k) m c n f far (omega arith) (omega arith) (λ q low high. none q (omega arith) high)

same_from : (k n : ℕ) (f g : ℕ → RegRule) (far : List Entry) → ((q : ℕ) → k ≤ q → f q ≡ g q) → listed_from k n f far ≡ listed_from k n g far
unfolding listed_from
same_from k zero f g far same = refl
same_from k (suc n) f g far same = ap (λ (x : RegRule). listed k x (listed_from (suc k) n f far)) (same k (omega arith)) ∙ ap (listed k (g k)) (same_from (suc k) n f g far (λ q le. same q (omega arith)))

one_from : (k c m : ℕ) (f : ℕ → RegRule) (far : List Entry) → c ≡ suc m → listed_from k c f far ≡ listed k (f k) (listed_from (suc k) m f far)
unfolding listed_from
one_from k c m f far e = ap (λ (n : ℕ). listed_from k n f far) e

module _ (used : ℕ) (near : Slots) (expressions far : List Entry) where
  skipped : (r : ℕ) → r ≤ 128 → ((q : ℕ) → q < r → bit_at used q ≡ 0) → listed_near 0 used near expressions far ≡ listed_near r used near expressions far
  skipped r within none = skip_many r 0 r 128 (128 - r) (near_rule used near expressions) far (omega arith) (omega arith) (λ q low high. unset_rule used near expressions q (none q high))

  -- without a register left the others are left
  pub none_used : FirstBit None used 0 → listed_near 0 used near expressions far ≡ far
  unfolding listed_from
  none_used none = skipped 128 (omega arith) (λ q lt. none q (omega arith) lt)

module _ (used rest : ℕ) (near : Slots) (expressions : List Entry) (holds : Holds used near expressions) (is_rest : rest ≡ bit_and used (used - 1)) where
  pub rest_holds : Holds rest near expressions
  rest_holds = fewer_holds used rest near expressions holds (λ q one. omega (arith, one, ap (λ (n : ℕ). bit_at n q) is_rest, bit_at_and used (used - 1) q, bit_at-lt used q))

  pub next_used : (far : List Entry) (r : ℕ) → FirstBit (Some r) used 0 → (s : Slot × ℤ) → s ≡ slot_at near r → (rule : RegRule) → rule ≡ slot_rule s (rule_in expressions r)
      → listed_near 0 used near expressions far ≡ (r, rule) ∷ listed_near 0 rest near expressions far
  next_used far r first s at rule e =
      let f = near_rule used near expressions in let g = near_rule rest near expressions in
      let is : rule ≡ f r = e ∙ ap (λ (x : Slot × ℤ). slot_rule x (rule_in expressions r)) at ∙ sym (set_rule used near expressions r first.2) in
      let bit = λ (q : ℕ). ap (λ (n : ℕ). bit_at n q) is_rest ∙ rest_bit used r first q in
      let stays = λ (q : ℕ) (le : suc r ≤ q). let e : bit_at used q ≡ bit_at rest q = grind (arith, nat_tests, bit q) in ap (λ (n : ℕ). rule_if n (slot_at near q) (rule_in expressions q)) e in
      skipped used near expressions far r (omega (arith, first.1)) (λ q. first.3 q (omega arith))
      ∙ one_from r (128 - r) (128 - suc r) f far (omega (arith, first.1))
      ∙ listed_is r (f r) (listed_from (suc r) (128 - suc r) f far) (holds r first.2)
      ∙ ap₂ (λ (x : RegRule) (l : List Entry). (r, x) ∷ l) (sym is) (same_from (suc r) (128 - suc r) f g far stays)
      ∙ ap (λ (l : List Entry). (r, rule) ∷ l) (sym (skipped rest near expressions far (suc r) (omega (arith, first.1)) (λ q lt. grind (arith, nat_tests, bit q))))

pub ruleset next_listed = (none_used, rest_holds)
