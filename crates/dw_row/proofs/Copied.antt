-- A row that becomes a copy of another one: the slots of a mask, outside which all rules are the same.
use Rattle.std.proofs.{Common.ap₂, lemmas.List.nil_from_length}
use Rattle.dw_row.proofs.Words.{◌≡◌, ℕ, List, refl, sym, ap, ◌∙◌, arith, nat_tests, cases_lt, bit_at, Entries, EntriesSo, entries_of, rule_in, has}
use Rattle.dw_row.proofs.Words.{CopiedUpTo, SameUnset, ◌<◌, inl, inr, false, is_specified, length, near_rule, subst, IsTrue, RegRule, ◌≤◌, ℤ, pos}
use Rattle.dw_row.proofs.Words.{SameSlots, Slot, Slots, bit_at-lt, bit_and, bit_at_and, slot_rule, SameOutside, Unspecified, HasRoom, slot_at}
use Rattle.dw_row.proofs.Words.{◌-◌, ◌^◌, None, Some, FirstBit, bit_at-zero, bit_at_above, cases_eq, if◌then◌else◌, nat_lt, set_at}
use Rattle.std.proofs.lemmas.Nat.{and_le_r}
use lib.ListN.{get_or-eq_default}
use Rattle.dw_row.proofs.{Lent.RowLists.Entry, Slots.{at_set, at_set_other, behind_slots, cases_bit, not_set, rest_bit, set_rule, slot_rule_is, unset_rule}}
use Rattle.dw_row.specs.declared.slot.Slot.TheVariants.{Undefined}

no_rule : (x : RegRule) → is_specified x ≡ false → x ≡ Unspecified
no_rule Unspecified e = refl
no_rule x e = absurd cc

-- a row in which nothing is set differs in the registers that are set alone
pub beside_blank : (e : Entries) → EntriesSo e → (r : ℕ) → has (record { near = e.used; far = e.far.entries }) r ≡ false → Unspecified ≡ rule_in (entries_of e) r
beside_blank e so r none = elim (cases_lt r 128) [
  | inl lt ↦ sym (not_set e so r lt (grind (arith, nat_tests, none, lt, bit_at-lt e.used r)))
  | inr ge ↦ sym (behind_slots e so r ge ∙ no_rule (rule_in e.far.entries r) (grind (arith, nat_tests, none, ge)))
]

-- ---- slots alone

-- those of a mask were copied, but for the registers that are left
pub record CopiedBut (left mask : ℕ) (others old near : Slots) : Type 0 where
  pub within : (q : ℕ) → bit_at left q ≡ 1 → bit_at mask q ≡ 1
  pub copied : (q : ℕ) → bit_at mask q ≡ 1 → bit_at left q ≡ 0 → slot_at near q ≡ slot_at others q
  pub stays : SameOutside mask old near

pub fewer_left : (n r : ℕ) → FirstBit (Some r) n 0 → bit_and n (n - 1) < n
fewer_left n r first =
    let some : 0 < n = elim (cases_eq n 0) [
      | inl zero ↦ absurd (omega (arith, first.2, ap (λ (m : ℕ). bit_at m r) zero, bit_at-zero r))
      | inr ne ↦ omega (arith, ne)
    ] in
    omega (arith, some, and_le_r n (n - 1))

module _ (left rest mask r : ℕ) (others old near near' : Slots) (room : HasRoom near)
    (before : CopiedBut left mask others old near) (first : FirstBit (Some r) left 0)
    (is_rest : rest ≡ bit_and left (left - 1)) (set : near' ≡ set_at near r (slot_at others r)) where
  rest_is : (q : ℕ) → bit_at rest q ≡ (if nat_lt r q then bit_at left q else 0)
  rest_is q = ap (λ (n : ℕ). bit_at n q) is_rest ∙ rest_bit left r first q

  other : (q : ℕ) → (q ≡ r → ⊥) → slot_at near' q ≡ slot_at near q
  other q ne = ap (λ (l : Slots). slot_at l q) set ∙ at_set_other near r q (slot_at others r) ne

  pub one_copied : CopiedBut rest mask others old near'
  one_copied = record {
    within = λ q one. before.within q (grind (arith, nat_tests, rest_is q, one));
    copied = λ q one none. elim (cases_eq q r) [
      | inl e ↦
          ap (slot_at near') e ∙ ap (λ (l : Slots). slot_at l r) set
          ∙ at_set near r (slot_at others r) room first.1 ∙ ap (slot_at others) (sym e)
      | inr ne ↦ other q ne ∙ before.copied q one (grind (arith, nat_tests, rest_is q, none, first.3 q, ne))
    ];
    stays = λ q none.
        let ne : q ≡ r → ⊥ =
        λ e. absurd (omega (arith, none, ap (bit_at mask) e, before.within r first.2)) in
        other q ne ∙ before.stays q none;
  }

pub all_copied : (left mask : ℕ) (others old near : Slots) → mask < 2 ^ 128
    → CopiedBut left mask others old near → FirstBit None left 0 → SameSlots mask others near
all_copied left mask others old near fits before none q one = elim (cases_lt q 128) [
  | inl lt ↦ before.copied q one (none q (omega arith) lt)
  | inr ge ↦ absurd (omega (arith, one, bit_at_above mask 128 q fits ge))
]

-- outside there are none
same_above : (near others : Slots) (q : ℕ) → HasRoom near → HasRoom others → 128 ≤ q → slot_at near q ≡ slot_at others q
same_above near others q room room' ge =
    ap₂ (λ (kind : Slot) (n : ℤ). (kind, n))
    (get_or-eq_default near.kinds Undefined {n = q} (omega (arith, room.0, ge)) ∙ sym (get_or-eq_default others.kinds Undefined {n = q} (omega (arith, room'.0, ge))))
    (get_or-eq_default near.numbers (pos 0) {n = q} (omega (arith, room.1, ge)) ∙ sym (get_or-eq_default others.numbers (pos 0) {n = q} (omega (arith, room'.1, ge))))

-- ---- the slots of a mask, outside which all rules are the same

unspecified_not : IsTrue (is_specified Unspecified) → ⊥
unspecified_not e = absurd cc

module _ (old others : Entries) (slots : Slots) (so : EntriesSo old) (so' : EntriesSo others) (mask : ℕ) (room : HasRoom slots) (none : length old.expressions.entries ≡ 0) (none' : length others.expressions.entries ≡ 0)
    (same : SameUnset mask (entries_of old) (entries_of others)) (copied : SameSlots (bit_and others.used mask) others.slots slots) (stays : SameOutside (bit_and others.used mask) old.slots slots) where
  abbrev new : Entries
  new = record { slots = slots; used = others.used; expressions = old.expressions; far = old.far }

  abbrev wanted : ℕ → RegRule
  wanted q = near_rule others.used others.slots others.expressions.entries q

  -- both have no rules beside slots
  x : old.expressions.entries ≡ others.expressions.entries
  x = nil_from_length old.expressions.entries none ∙ sym (nil_from_length others.expressions.entries none')

  -- a register outside the mask had its rule before
  stayed : (q : ℕ) → q < 128 → bit_at others.used q ≡ 1 → bit_at mask q ≡ 0 → slot_rule (slot_at old.slots q) (rule_in old.expressions.entries q) ≡ wanted q
  stayed q lt one out =
      let is : near_rule old.used old.slots old.expressions.entries q ≡ wanted q = sym (slot_rule_is old so q lt) ∙ same q lt out ∙ slot_rule_is others so' q lt in
      elim (cases_bit (bit_at old.used q) (bit_at-lt old.used q)) [
        | inl none ↦
            absurd (unspecified_not (subst (λ (r : RegRule). IsTrue (is_specified r)) (sym is ∙ unset_rule old.used old.slots old.expressions.entries q none) (so'.used q one)))
        | inr some ↦ sym (set_rule old.used old.slots old.expressions.entries q some) ∙ is
      ]

  -- and one whose slot is that of the others has it now
  moved : (q : ℕ) → bit_at others.used q ≡ 1 → slot_at slots q ≡ slot_at others.slots q → slot_rule (slot_at slots q) (rule_in old.expressions.entries q) ≡ wanted q
  moved q one is =
      ap (λ (s : Slot × ℤ). slot_rule s (rule_in old.expressions.entries q)) is
      ∙ ap (λ (l : List Entry). slot_rule (slot_at others.slots q) (rule_in l q)) x
      ∙ sym (set_rule others.used others.slots others.expressions.entries q one)

  held : (q : ℕ) → bit_at others.used q ≡ 1 → slot_rule (slot_at slots q) (rule_in old.expressions.entries q) ≡ wanted q
  held q one = elim (cases_lt q 128) [
    | inl lt ↦ elim (cases_bit (bit_at mask q) (bit_at-lt mask q)) [
      | inl out ↦ ap (λ (s : Slot × ℤ). slot_rule s (rule_in old.expressions.entries q)) (stays q (omega (arith, out, bit_at_and others.used mask q))) ∙ stayed q lt one out
      | inr in_mask ↦ moved q one (copied q (omega (arith, one, in_mask, bit_at_and others.used mask q)))
    ]
    | inr ge ↦ moved q one (same_above slots others.slots q room so'.slots ge)
  ]

  rules_are : (q : ℕ) → near_rule others.used slots old.expressions.entries q ≡ wanted q
  rules_are q = elim (cases_bit (bit_at others.used q) (bit_at-lt others.used q)) [
    | inl none ↦ unset_rule others.used slots old.expressions.entries q none ∙ sym (unset_rule others.used others.slots others.expressions.entries q none)
    | inr one ↦ set_rule others.used slots old.expressions.entries q one ∙ held q one
  ]

  pub masked_so : EntriesSo new
  masked_so = record {
    used = λ q one. subst (λ (r : RegRule). IsTrue (is_specified r)) (sym (rules_are q)) (so'.used q one);
    slots = room;
    expressions = so.expressions;
    beside = so.beside;
    far = so.far;
  }

  pub masked_copied : CopiedUpTo 128 (entries_of others) (entries_of old) (entries_of new)
  masked_copied = record {
    below = λ q lt. slot_rule_is new masked_so q lt ∙ rules_are q ∙ sym (slot_rule_is others so' q lt);
    above = λ q le. behind_slots new masked_so q le ∙ sym (behind_slots old so q le);
  }
