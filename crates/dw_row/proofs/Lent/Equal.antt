-- What tells equal rules is our test, and what two rows have in common is what the tests leave.
use Rattle.dw_row.proofs.Words.{◌≡◌, ◌⊎◌, Bool, false, refl, sym, ◌∙◌, inl, inr, arith, IsTrue, ◌↔◌, if◌then◌else◌, Decides, one_answer, cases_Bool, not_from_Decides, CfaRule, RegRule, Rules, InCommon, IsAgreed, agreed, is_agreed, same_cfa}
use Rattle.dw_row.proofs.{Words.{same_rule, cfa_tells, rule_tells, AreSpecified, rule, rows_tell}, Lent.{Narrowed.{filter_keeps, filter_rule}, SameRows.same_rows}}
use Rattle.dw_row.specs.Inner.RowEquality.{same_rows as rows_same}
use Rattle.dw_row.specs.declared.rule.CfaRule.TheVariants as cfa
use Rattle.dw_row.specs.declared.rule.RegRule.TheVariants as rules

-- what tells equal rules is the test
pub cfa_test_of : (a b : CfaRule) (r : Bool) → (IsTrue r ↔ (a ≡ b)) → r ≡ same_cfa a b
cfa_test_of a b r is = one_answer r (same_cfa a b) is (cfa_tells a b)

pub test_of : (a b : RegRule) (r : Bool) → (IsTrue r ↔ (a ≡ b)) → r ≡ same_rule a b
test_of a b r is = one_answer r (same_rule a b) is (rule_tells a b)

pub differs_of : (a b : RegRule) → (a ≡ b → ⊥) → same_rule a b ≡ false
differs_of a b differ = elim (cases_Bool (same_rule a b)) [ inl e ↦ absurd (differ ((rule_tells a b).0 e)) | inr e ↦ e ]

-- a test that answers no
pub not_one : {P : Type 0} → (IsTrue false ↔ P) → P → ⊥
not_one is = not_from_Decides false is refl

-- two values are one, or they are not
abbrev pub Told : Type 0 → Type 0
Told X = (x y : X) → (x ≡ y) ⊎ (x ≡ y → ⊥)

-- a test that tells equal values decides that
pub told_of : {X : Type 0} (same : X → X → Bool) → ((x y : X) → Decides (same x y) (x ≡ y)) → Told X
told_of same tells x y = elim (cases_Bool (same x y)) [ inl e ↦ inl ((tells x y).0 e) | inr e ↦ inr (not_from_Decides (same x y) (tells x y) e) ]

pub cfa_told : Told CfaRule
cfa_told = told_of same_cfa cfa_tells

pub rule_told : Told RegRule
rule_told = told_of same_rule rule_tells

-- a test of rows that tells equal ones
abbrev pub RowTest : Type 0
RowTest = (same : Rules → Rules → Bool) × ((a b : Rules) → Decides (same a b) (a ≡ b))

unfoldable pub row_test : RowTest
row_test = (rows_same, rows_tell)

-- ---- rows

agrees : {X : Type 0} (same : X → X → Bool) → ((x y : X) → Decides (same x y) (x ≡ y)) → (none old other new : X) → InCommon none old other new → new ≡ (if same old other then old else none)
agrees same tells none old other new h = grind (arith, tells old other, h.0, h.1)

pub common_rule : (old other new : RegRule) → new ≡ (if same_rule old other then old else rules.Unspecified) → InCommon rules.Unspecified old other new
common_rule old other new is = ((λ e. grind (arith, rule_tells old other)), (λ differ. grind (arith, rule_tells old other)))

-- it is one row, where the registers are listed
pub agreed_of : (old other new : Rules) → AreSpecified 0 old.registers → IsAgreed old other new → new ≡ agreed old other
agreed_of old other new up h =
    same_rows new (agreed old other) h.listed (filter_keeps (is_agreed other.registers) 0 old.registers up) (agrees same_cfa cfa_tells cfa.Unset old.cfa other.cfa new.cfa h.cfa)
    (λ r. agrees same_rule rule_tells rules.Unspecified (rule old r) (rule other r) (rule new r) (h.rules r) ∙ sym (filter_rule (is_agreed other.registers) 0 old.registers r up))
