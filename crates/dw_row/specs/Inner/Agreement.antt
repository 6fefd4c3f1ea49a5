-- Whether two rules are the same, as a test, and what two rows have in common by it.
use Rattle.std.specs.{Prelude.{ℕ, Bool, true, false, ◌&&◌, nat_eq, List, ◌∷◌, map, if◌then◌else◌}, List.filter, Ordering.int_eq}
use Rattle.dw_op.specs.{Expression.Expression, declared.op.Op.Op, declared.op.Op.TheVariants.Implicit}
use Rattle.dw_op.specs.Inner.Equality.{op_line, same_lines, target_line}
use Rattle.dw_row.specs.{Rows.{Rules, rule_in}, declared.rule.{CfaRule.CfaRule, RegRule.RegRule}}
use Rattle.dw_row.specs.declared.rule.CfaRule.TheVariants as cfa
use Rattle.dw_row.specs.declared.rule.RegRule.TheVariants as rules

-- where an operation's bytes lie in memory
abbrev pub pointer : Op → ℕ × ℕ
pointer (Implicit block) = block.ref_ptr
pointer op = (0, 0)

-- with that, equal lines are of equal operations, of whatever kind
abbrev pub whole_line : Op → List ℕ
whole_line op = (pointer op).0 ∷ (pointer op).1 ∷ op_line op

abbrev pub whole_lines : Expression → List (List ℕ)
whole_lines e = target_line e.target ∷ map whole_line e.ops

abbrev pub same_expression : Expression → Expression → Bool
same_expression a b = same_lines (whole_lines a) (whole_lines b)

abbrev pub same_cfa : CfaRule → CfaRule → Bool
same_cfa cfa.Unset cfa.Unset = true
same_cfa (cfa.Register r n) (cfa.Register q m) = nat_eq r q && int_eq n m
same_cfa (cfa.Expression a) (cfa.Expression b) = same_expression a b
same_cfa a b = false

abbrev pub same_rule : RegRule → RegRule → Bool
same_rule rules.Unspecified rules.Unspecified = true
same_rule rules.Undefined rules.Undefined = true
same_rule rules.SameValue rules.SameValue = true
same_rule (rules.Offset n) (rules.Offset m) = int_eq n m
same_rule (rules.ValOffset n) (rules.ValOffset m) = int_eq n m
same_rule (rules.Register r) (rules.Register q) = nat_eq r q
same_rule (rules.Expression a) (rules.Expression b) = same_expression a b
same_rule (rules.ValExpression a) (rules.ValExpression b) = same_expression a b
same_rule a b = false

-- whether other registers give an entry's register the same rule
abbrev pub is_agreed : List (ℕ × RegRule) → ℕ × RegRule → Bool
is_agreed others entry = same_rule entry.1 (rule_in others entry.0)

-- a row's rules that another row has too
abbrev pub agreed : Rules → Rules → Rules
agreed shared row = record {
  cfa = if same_cfa shared.cfa row.cfa then shared.cfa else cfa.Unset;
  registers = filter (is_agreed row.registers) shared.registers;
}
