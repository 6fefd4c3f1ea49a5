use Rattle.dw_normal.proofs.{Appended.then_appended, Words.{ℕ, ◌++◌, ◌∷◌, ◌∙◌, ap, expression_bytes, shortest_uleb}}
use Rattle.dw_normal.proofs.instruction.push_block.Goals as goal

pub returns : goal.returns
returns c =
    then_appended c.push_expression.result c.args.out.now.items c.push_with.new.out.items c.push_expression.new.out.items (c.args.code ∷ shortest_uleb c.args.register) (expression_bytes c.args.target c.args.block.now)
    (c.in_ok-push_with.ensures ∙ ap (λ (n : ℕ). c.args.out.now.items ++ c.args.code ∷ shortest_uleb n) c.from.ensures) c.push_expression.ensures
