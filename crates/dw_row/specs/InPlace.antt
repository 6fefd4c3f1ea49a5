-- What a row holds in place, without memory: registers below 128 whose rules have no expression.
use Rattle.std.specs.Prelude.{ℕ, ◌<◌}
use Rattle.dw_row.specs.declared.rule.RegRule.{RegRule, TheVariants.{Expression, ValExpression}}

-- a rule that has no expression
abbrev pub IsPlain : RegRule → Type 0
IsPlain (Expression e) = ⊥
IsPlain (ValExpression e) = ⊥
IsPlain rule = Unit {0}

-- a register has room for its rule in any row
abbrev pub IsInPlace : ℕ → RegRule → Type 0
IsInPlace r rule = (r < 128) × IsPlain rule
