use Rattle.dw_cfa.proofs.{Words.{◌≡◌, ◌∙◌, to_z-of_z, w64}, Products.{computed_fits, product_is}, opcode.times.Goals.After-from}
use Rattle.dw_cfa.proofs.opcode.times.Goals as goal

is : (c : After-from) → c.from.result ≡ c.args.factor
is c = c.from.ensures ∙ to_z-of_z w64 c.args.factor c.ranges.factor

pub returns : goal.returns
returns c = product_is c.args.operand c.args.factor c.from.result c.ranges.operand c.requires c.ranges.factor (is (goal.at.returns c).After-from)

pub overflow_mul-result : goal.overflow_mul-result
overflow_mul-result c = computed_fits c.args.operand c.args.factor c.from.result c.ranges.operand c.requires c.ranges.factor (is (goal.at.overflow_mul-result c).After-from)
