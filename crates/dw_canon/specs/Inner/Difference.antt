-- The instructions that lead from one row to another, by the tests that the code has.
use Rattle.std.specs.{Prelude.{ℕ, List}, BTreeSet.insert_key, List.fold, Ordering.nat_cmp}
use Rattle.dw_row.specs.{Rows.Rules, declared.rule.{CfaRule.CfaRule, RegRule.RegRule}, Inner.Agreement.{same_cfa, same_rule}}
use Rattle.dw_cfa.specs.declared.instr.Instr.{Instr}
use Rattle.dw_canon.specs.Difference as form

-- an ascending list with a register more
abbrev pub with_register : ℕ → List ℕ → List ℕ
with_register r qs = insert_key nat_cmp qs r

abbrev pub with_registers : List ℕ → List ℕ → List ℕ
with_registers rs qs = fold (insert_key nat_cmp) qs rs

abbrev pub cfa_difference : CfaRule → CfaRule → List Instr
cfa_difference = form.cfa_difference same_cfa same_rule

abbrev pub rule_to : Rules → ℕ → RegRule → Instr
rule_to = form.rule_to same_cfa same_rule

abbrev pub rule_difference : Rules → Rules → Rules → ℕ → List Instr
rule_difference = form.rule_difference same_cfa same_rule

abbrev pub difference : Rules → Rules → Rules → List Instr
difference = form.difference same_cfa same_rule

abbrev pub later_changes : Rules → ℕ → Rules → List (ℕ × Rules) → List Instr
later_changes = form.later_changes same_cfa same_rule
