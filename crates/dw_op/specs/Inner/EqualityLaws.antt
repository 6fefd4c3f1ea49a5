-- The laws of the test for equality of expressions.
use Rattle.std.specs.{Prelude.{◌≡◌, ℕ, List, true}, Bool.Decides, Cmp.{IsPartialEquivalence, IsEquivalence, on_equiv, nat_eq_equiv}}
use Rattle.std.specs.{Cmp.{partial_equiv_from_equiv, unsigned_Decides}, Cmp.Lexicographic.{pointwise_decides, lists_equiv}}
use Rattle.std.proofs.Common.{ap}
use Rattle.dw_op.specs.{Expression.Expression, Inner.Equality.{expression_lines, same_lines, same_expression, lines_fed, expression_fed}}

-- the test on lines tells equal ones
pub lines_decide : (a b : List (List ℕ)) → Decides (same_lines a b) (a ≡ b)
lines_decide a b = pointwise_decides (λ x y. pointwise_decides unsigned_Decides x y) a b

pub equal_laws : IsEquivalence same_expression
equal_laws = on_equiv expression_lines (lists_equiv (lists_equiv nat_eq_equiv))

pub same_laws : IsPartialEquivalence same_expression
same_laws = partial_equiv_from_equiv equal_laws

-- equal expressions feed a hasher equally
pub fed_alike : (a b : Expression) → same_expression a b ≡ true → expression_fed a ≡ expression_fed b
fed_alike a b e = ap lines_fed ((lines_decide (expression_lines a) (expression_lines b)).0 e)
