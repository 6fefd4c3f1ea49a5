-- Whatever gives each list of operations its least block spells instructions in the same bytes.
use Rattle.dw_canon.proofs.Words.{◌≡◌, ℕ, List, [], ◌∷◌, ◌++◌, refl, ap, ◌∙◌, AllByRecursion, Target, Op, LeastBlock, least_block, Expression, shortest_uleb, least_block_exists, Instr, DefCfaExpression, Set, RegRule, HasBlock, RuleFits}
use Rattle.dw_canon.proofs.Words.{InstrFits, counted_block}
use Rattle.dw_canon.specs.Spelling.{rule_bytes, program_bytes, instr_bytes as instr_with}
use Rattle.dw_row.specs.declared.rule.RegRule.TheVariants as rules

module _ (t : Target) (block : List Op → List ℕ) (least : (ops : List Op) (bytes : List ℕ) → LeastBlock t ops bytes → block ops ≡ bytes) where
  same_block : (e : Expression) → HasBlock t e → block e.ops ≡ least_block t e.ops
  same_block e h = least e.ops (least_block t e.ops) (least_block_exists t e.ops h.1.0 h.1.1.0)

  same_rule : (r : ℕ) (rule : RegRule) → RuleFits t rule → rule_bytes block r rule ≡ rule_bytes (least_block t) r rule
  same_rule r (rules.Expression e) h = ap (λ (b : List ℕ). 0x10 ∷ (shortest_uleb r ++ counted_block b)) (same_block e h)
  same_rule r (rules.ValExpression e) h = ap (λ (b : List ℕ). 0x16 ∷ (shortest_uleb r ++ counted_block b)) (same_block e h)
  same_rule r rule h = refl

  same_instr : (i : Instr) → InstrFits t i → instr_with block t i ≡ instr_with (least_block t) t i
  unfolding instr_with
  same_instr (DefCfaExpression e) h = ap (λ (b : List ℕ). 0x0f ∷ counted_block b) (same_block e h)
  same_instr (Set r rule) h = same_rule r rule h.1
  same_instr i h = refl

  pub same_program : (instrs : List Instr) → AllByRecursion (InstrFits t) instrs → program_bytes block t instrs ≡ program_bytes (least_block t) t instrs
  same_program [] h = refl
  same_program (i ∷ instrs) h = ap (λ (b : List ℕ). b ++ program_bytes block t instrs) (same_instr i h.0) ∙ ap (λ (b : List ℕ). instr_with (least_block t) t i ++ b) (same_program instrs h.1)
