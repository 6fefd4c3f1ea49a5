use Rattle.dw_op.proofs.LeastOf.{least_length}
use Rattle.dw_op.proofs.least.op_least_len.Goals as goal

pub returns : goal.returns
returns c = λ bits. least_length c.args.target 0 bits _ c.args.op.now _ c.least_spelling.ensures (c.operand_len.ensures.len c.args.target.order)
