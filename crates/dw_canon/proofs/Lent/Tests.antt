-- Whatever tells equal rules leads from one row to another by the same instructions.
use Rattle.std.proofs.Common.{rules}
use Rattle.dw_canon.proofs.Words.{◌≡◌, ℕ, Bool, List, [], ◌∷◌, refl, ap, ◌↔◌, IsTrue, if◌then◌else◌, flat_map, Set, Restore, CfaRule, RegRule, same_cfa, same_rule, cfa_tells, rule_tells, Rules, rule, blank, cfa_to, either}
use Rattle.dw_canon.proofs.Words.{cie_instrs, fde_instrs, cfa_difference, rule_to, rule_difference, difference, later_changes, Member}
use Rattle.std.specs.Bool.{one_answer}
use Rattle.dw_canon.specs.Canon as canon
use Rattle.dw_canon.specs.Difference as form

module _ (test_cfa : CfaRule → CfaRule → Bool) (tells_cfa : (a b : CfaRule) → IsTrue (test_cfa a b) ↔ (a ≡ b))
    (test_rule : RegRule → RegRule → Bool) (tells_rule : (a b : RegRule) → IsTrue (test_rule a b) ↔ (a ≡ b)) where
  same_cfas : (old new : CfaRule) → form.cfa_difference test_cfa test_rule old new ≡ cfa_difference old new
  same_cfas old new = ap (λ (x : Bool). if x then [] else cfa_to old new) (one_answer (test_cfa old new) (same_cfa old new) (tells_cfa old new) (cfa_tells old new))

  rule_answer : (a b : RegRule) → test_rule a b ≡ same_rule a b
  rule_answer a b = one_answer (test_rule a b) (same_rule a b) (tells_rule a b) (rule_tells a b)

  module _ (initial : Rules) where
    same_to : (r : ℕ) (new : RegRule) → form.rule_to test_cfa test_rule initial r new ≡ rule_to initial r new
    same_to r new = ap (λ (x : Bool). if x then Restore r else Set r new) (rule_answer new (rule initial r))

    module _ (old new : Rules) where
      same_one : (r : ℕ) → form.rule_difference test_cfa test_rule initial old new r ≡ rule_difference initial old new r
      same_one r = search (rules, rule_answer, same_rule, same_to)

      same_rules : (rs : List ℕ) → flat_map (form.rule_difference test_cfa test_rule initial old new) rs ≡ flat_map (rule_difference initial old new) rs
      same_rules [] = refl
      same_rules (r ∷ rs) = search (rules, same_one, same_rules rs)

      same_difference : form.difference test_cfa test_rule initial old new ≡ difference initial old new
      same_difference = search (rules, either, same_cfas, same_rules)

    same_later : (at : ℕ) (row : Rules) (changes : List (ℕ × Rules)) → form.later_changes test_cfa test_rule initial at row changes ≡ later_changes initial at row changes
    same_later at row [] = refl
    same_later at row (change ∷ changes) = search (rules, same_difference, same_later change.0 change.1 changes)

    pub same_fde : (m : Member) → canon.fde_instrs test_cfa test_rule initial m ≡ fde_instrs initial m
    same_fde m = cc (same_difference initial m.first, same_later m.begin m.first m.later)

  pub same_cie : (initial : Rules) → canon.cie_instrs test_cfa test_rule initial ≡ cie_instrs initial
  same_cie initial = same_difference blank blank initial
