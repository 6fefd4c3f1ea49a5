-- Sets of registers: one register more, all of another set, and what two rows have in common among them.
use Rattle.dw_row.proofs.Words.{◌≡◌, ◌⊎◌, ℕ, suc, ◌<◌, ◌||◌, Bool, true, false, List, ◌∷◌, Result, Ok, Err, OnErr, OnOk, refl, sym, ap, ◌∙◌, subst, arith, inl, inr, if◌then◌else◌, bit_or, bit_at_or, nat_tests, cases_Bool, IsTrue, ◌↔◌, ◌≤◌}
use Rattle.dw_row.proofs.Words.{None, filter, not, cases_lt, CfaRule, RegRule, Rules, Unset, Unspecified, AreSpecified, rule, rule_in, with_rule, DiffersFirst, FirstDifference, InCommon, IsAgreed, is_agreed, same_rule, rule_tells, left}
use Rattle.dw_row.proofs.Words.{LeavesAmong, LeavesAt, [], nat_eq, bit_at-zero, Registers, AgreesBeside, has, in_mask, in_tree, bit_at-lt, on_err_weaker, on_ok_weaker}
use Rattle.dw_row.proofs.Lent.{RowLists.{Entry, lower, unlisted}, Equal.{common_rule, test_of}, Narrowed.{filter_rule, leaves_none, none_left}}

-- ---- registers that are put in

pub none_in : (far : List Entry) → far ≡ [] → (r : ℕ) → has (record { near = 0; far = far }) r ≡ false
none_in far e r = rw e (grind (arith, nat_tests, bit_at-zero r))

pub rest_up : (xs rest : List Entry) (q : ℕ) (x : RegRule) → xs ≡ (q, x) ∷ rest → AreSpecified 128 xs → AreSpecified 128 rest
rest_up xs rest q x e up = let here = subst (AreSpecified 128) e up in lower (suc q) 128 rest (omega (arith, here.0)) here.2

-- one of a tree is put in: those of the rest are still to come
pub tree_next : (all xs rest : List Entry) (q : ℕ) (x : RegRule) (was old new : Registers) → xs ≡ (q, x) ∷ rest → AreSpecified 128 xs → ((r : ℕ) → has new r ≡ (nat_eq r q || has old r))
    → ((r : ℕ) → (in_tree xs r || has old r) ≡ (in_tree all r || has was r)) → (r : ℕ) → (in_tree rest r || has new r) ≡ (in_tree all r || has was r)
tree_next all xs rest q x was old new e up added h r =
    let here = subst (AreSpecified 128) e up in let given = here.1 in
    grind (arith, nat_tests, ap (λ (l : List Entry). rule_in l r) e, added r, h r, given)

-- what is in is one of them, or was in
pub none_else : (all rest : List Entry) (was old new : Registers) → new ≡ old → ((r : ℕ) → (in_tree rest r || has old r) ≡ (in_tree all r || has was r))
    → (r : ℕ) → has new r ≡ true → (in_tree all r || has was r) ≡ true
none_else all rest was old new same h r is = let still = subst (λ (s : Registers). has s r ≡ true) same is in grind (arith, nat_tests, h r, still)

-- and none that was in is out
pub more_added : (q : ℕ) (was old new : Registers) → ((r : ℕ) → has new r ≡ (nat_eq r q || has old r)) → ((r : ℕ) → has was r ≡ true → has old r ≡ true) → (r : ℕ) → has was r ≡ true → has new r ≡ true
more_added q was old new added h r is = let before = h r is in grind (arith, nat_tests, added r, before)

-- all of a mask and of a tree, and no others; and none is out that was in
module _ {X E : Type 0} (result : Result X E) (m n old other new : Registers) (one : m ≡ old) (two : n ≡ other) where
  abbrev joined : Registers
  joined = record { near = bit_or m.near n.near; far = m.far }

  both_in : AreSpecified 128 n.far → (r : ℕ) → (in_tree n.far r || has joined r) ≡ (has other r || has old r)
  both_in so r =
      let low = λ (lt : r < 128). unlisted r 128 n.far so lt in
      rw (← one, ← two) (grind (arith, nat_tests, low, bit_at_or m.near n.near r, bit_at-lt m.near r, bit_at-lt n.near r))

  pub all_added : AreSpecified 128 n.far → OnOk result ((r : ℕ) → has new r ≡ (in_tree n.far r || has joined r)) → OnOk result ((r : ℕ) → has new r ≡ (has other r || has old r))
  all_added so = on_ok_weaker result (λ is r. is r ∙ both_in so r)

  pub no_others : AreSpecified 128 n.far → OnErr result ((r : ℕ) → has new r ≡ true → (in_tree n.far r || has joined r) ≡ true) → OnErr result ((r : ℕ) → has new r ≡ true → (has other r || has old r) ≡ true)
  no_others so = on_err_weaker result (λ is r now. sym (both_in so r) ∙ is r now)

  pub all_stay : OnErr result ((r : ℕ) → has joined r ≡ true → has new r ≡ true) → OnErr result ((r : ℕ) → has old r ≡ true → has new r ≡ true)
  all_stay = on_err_weaker result (λ is r before.
      let was = subst (λ (x : Registers). has x r ≡ true) (sym one) before in
      is r (grind (arith, nat_tests, was, bit_at_or m.near n.near r, bit_at-lt m.near r, bit_at-lt n.near r)))

-- ---- registers that are dropped where another row gives them another rule

pub left_twice : (p : Entry → Bool) (q : ℕ) (x : RegRule) → left p q (left p q x) ≡ left p q x
left_twice p q x = elim (cases_Bool (p (q, x))) [ inl e ↦ rw (e, e) refl | inr e ↦ rw e (none_left p q) ]

pub stays_at : (row other : Rules) (r : ℕ) (same : Bool) → IsTrue same ↔ (rule row r ≡ rule other r) → same ≡ true → LeavesAt (is_agreed other.registers) r row.registers row.registers
stays_at row other r same is e q = let test = sym (test_of (rule row r) (rule other r) same is) ∙ e in grind (arith, nat_tests, test)

pub dropped_at : {X E : Type 0} (result : Result X E) (row other new : Rules) (r : ℕ) (same : Bool) → IsTrue same ↔ (rule row r ≡ rule other r) → same ≡ false → AreSpecified 0 row.registers
    → OnOk result (new ≡ with_rule r Unspecified row) → OnOk result (LeavesAt (is_agreed other.registers) r row.registers new.registers)
dropped_at (Ok x) row other new r same is e up set =
    leaves_none (is_agreed other.registers) r row.registers new.registers (sym (test_of (rule row r) (rule other r) same is) ∙ e) up (ap (λ (row : Rules). row.registers) set)
dropped_at (Err x) row other new r same is e up set = tt

-- what a test of those in a tree leaves, of which some are still to come
abbrev pub StillLeaves : (Entry → Bool) → List Entry → List Entry → List Entry → List Entry → Type 0
StillLeaves p all old rest new = (q : ℕ) → (if in_tree rest q then left p q (rule_in new q) else rule_in new q) ≡ (if in_tree all q then left p q (rule_in old q) else rule_in old q)

pub next_leaves : (p : Entry → Bool) (all xs rest : List Entry) (r : ℕ) (x : RegRule) (old new next : List Entry) → xs ≡ (r, x) ∷ rest → AreSpecified 128 xs → LeavesAt p r new next
    → StillLeaves p all old xs new → StillLeaves p all old rest next
next_leaves p all xs rest r x old new next e up at h q =
    let here = subst (AreSpecified 128) e up in let given = here.1 in
    grind (arith, nat_tests, ap (λ (l : List Entry). rule_in l q) e, at q, h q, given, left_twice p q (rule_in new q))

both_leave : (a b : Bool) (p : Entry → Bool) (q : ℕ) (x mid new : RegRule) → mid ≡ (if a then left p q x else x) → new ≡ (if b then left p q mid else mid) → new ≡ (if a || b then left p q x else x)
both_leave true true p q x mid new e e' = e' ∙ ap (left p q) e ∙ left_twice p q x
both_leave true false p q x mid new e e' = e' ∙ e
both_leave false true p q x mid new e e' = e' ∙ ap (left p q) e
both_leave false false p q x mid new e e' = e' ∙ e

agrees_left : (other : List Entry) (r : ℕ) (x : RegRule) → (x ≡ Unspecified) ⊎ (x ≡ rule_in other r) → left (is_agreed other) r x ≡ x
agrees_left other r x (inl e) = rw e (none_left (is_agreed other) r)
agrees_left other r x (inr e) = let same : same_rule x (rule_in other r) ≡ true = (rule_tells x (rule_in other r)).1 e in rw same refl

module _ (m registers : Registers) (is : m ≡ registers) (old other : Rules) (beside : AgreesBeside registers old other) (mid : List Entry) (new : Rules)
    (near : LeavesAmong (in_mask m.near 128) (is_agreed other.registers) old.registers mid) (far : LeavesAmong (in_tree m.far) (is_agreed other.registers) mid new.registers) where
  outside : (r : ℕ) → (in_mask m.near 128 r || in_tree m.far r) ≡ false → has registers r ≡ false
  outside r none = rw (sym is) (grind (arith, nat_tests, none))

  rule_left : (r : ℕ) → rule new r ≡ left (is_agreed other.registers) r (rule old r)
  rule_left r =
      let both = both_leave (in_mask m.near 128 r) (in_tree m.far r) (is_agreed other.registers) r (rule old r) (rule_in mid r) (rule new r) (near r) (far r) in
      elim (cases_Bool (in_mask m.near 128 r || in_tree m.far r)) [
        | inl e ↦ both ∙ rw e refl
        | inr e ↦ both ∙ rw e (sym (agrees_left other.registers r (rule old r) (beside r (outside r e))))
      ]

  pub common : (r : ℕ) → InCommon Unspecified (rule old r) (rule other r) (rule new r)
  common r = common_rule (rule old r) (rule other r) (rule new r) (rule_left r)

-- registers below one were dropped where another row gives them another rule, and all others are as they were
pub record AgreedUpTo (k : ℕ) (old other new : List Entry) : Type 0 where
  pub below : (r : ℕ) → r < k → InCommon Unspecified (rule_in old r) (rule_in other r) (rule_in new r)
  pub above : (r : ℕ) → k ≤ r → rule_in new r ≡ rule_in old r

module _ {k : ℕ} {old other new : List Entry} (h : AgreedUpTo k old other new) where
  stays_common : (r : ℕ) → k ≤ r → rule_in new r ≡ rule_in other r → InCommon Unspecified (rule_in old r) (rule_in other r) (rule_in new r)
  stays_common r le same = ((λ e. h.above r le), (λ differ. absurd (differ (sym (h.above r le) ∙ same))))

  pub all_agreed : FirstDifference k new other None → (r : ℕ) → InCommon Unspecified (rule_in old r) (rule_in other r) (rule_in new r)
  all_agreed none r = elim (cases_lt r k) [ inl lt ↦ h.below r lt | inr ge ↦ stays_common r ge (none r ge) ]

  -- the first register from there on that another row gives another rule is dropped
  module _ {q : ℕ} {next : List Entry} (d : DiffersFirst k new other q) (up : AreSpecified 0 new) (is : next ≡ filter (λ (x : Entry). not (nat_eq x.0 q)) new) where
    rule_next : (r : ℕ) → rule_in next r ≡ (if not (nat_eq r q) then rule_in new r else Unspecified)
    rule_next r = ap (λ (l : List Entry). rule_in l r) is ∙ filter_rule (λ (x : Entry). not (nat_eq x.0 q)) 0 new r up

    others : (r : ℕ) → (r ≡ q → ⊥) → rule_in next r ≡ rule_in new r
    others r ne = grind (arith, nat_tests, rule_next r)

    here : InCommon Unspecified (rule_in old q) (rule_in other q) (rule_in next q)
    here = ((λ same. absurd (d.2 (h.above q d.0 ∙ same))), (λ differ. grind (arith, nat_tests, rule_next q)))

    before : (r : ℕ) → r < q → InCommon Unspecified (rule_in old r) (rule_in other r) (rule_in next r)
    before r lt = rw (others r (omega (arith, lt))) (elim (cases_lt r k) [ inl low ↦ h.below r low | inr ge ↦ stays_common r ge (d.1 r ge lt) ])

    pub one_agreed : AgreedUpTo (suc q) old other next
    one_agreed = record {
      below = λ r lt. elim (cases_lt r q) [ inl low ↦ before r low | inr ge ↦ let at : q ≡ r = omega (arith, lt, ge) in subst (λ (n : ℕ). InCommon Unspecified (rule_in old n) (rule_in other n) (rule_in next n)) at here ];
      above = λ r le. others r (omega (arith, le)) ∙ h.above r (omega (arith, le, d.0));
    }

-- what both rows have in common, once the CFA's rule is agreed too
pub agreed_by : (old other mid new : Rules) → mid.cfa ≡ old.cfa → ((r : ℕ) → InCommon Unspecified (rule old r) (rule other r) (rule mid r)) → AreSpecified 0 mid.registers
    → InCommon Unset mid.cfa other.cfa new.cfa → new.registers ≡ mid.registers → IsAgreed old other new
agreed_by old other mid new stays each up cfa same = record {
  cfa = subst (λ (x : CfaRule). InCommon Unset x other.cfa new.cfa) stays cfa;
  rules = λ r. subst (λ (l : List Entry). InCommon Unspecified (rule old r) (rule other r) (rule_in l r)) (sym same) (each r);
  listed = subst (AreSpecified 0) (sym same) up;
}
