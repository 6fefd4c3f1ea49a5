use Rattle.dw_op.proofs.{Words.{[], ◌∷◌, operand_bytes}, LeastOf.{puts_behind, puts_all, least_spelled}}
use Rattle.dw_op.proofs.least.put_op.Goals as goal

pub returns-clause-ok : goal.returns-clause-ok
returns-clause-ok c =
    let s = c.least_spelling-code in
    rw (← least_spelled c.args.target c.args.displacement c.args.op.now s.result s.ensures)
    (puts_all c.push_operand.result _ _ _ (puts_behind c.push_operand.result c.args.out.now.items _ _ (s.result.0 ∷ []) (operand_bytes c.args.target.order s.result.1) c.in_ok-push.ensures.items c.push_operand.ensures))
