-- Rules of a row that fits.
use Rattle.std.{specs.{Prelude.{ℕ, List, [], ◌∷◌, ◌<◌, nat_eq}, List.AllByRecursion}, proofs.lemmas.Bool.cond_both}
use Rattle.dw_row.specs.{Rows.{Rules, rule, rule_in}, declared.rule.RegRule.RegRule}
use Rattle.dw_cfa.specs.Fits.{RowFits, RuleFits}
use Rattle.dw_num.specs.declared.target.Target.{Target}

in_fits : (t : Target) (xs : List (ℕ × RegRule)) (r : ℕ) → AllByRecursion (λ (entry : ℕ × RegRule). (entry.0 < 65536) × RuleFits t entry.1) xs → RuleFits t (rule_in xs r)
in_fits t [] r h = tt
in_fits t (x ∷ xs) r h = cond_both (nat_eq x.0 r) x.1 (rule_in xs r) (RuleFits t) (λ e. h.0.1) (λ e. in_fits t xs r h.1)

-- a row that fits has in each register a rule that fits
pub rule_fits : (t : Target) (row : Rules) → RowFits t row → (r : ℕ) → RuleFits t (rule row r)
rule_fits t row h r = in_fits t row.registers r h.registers
