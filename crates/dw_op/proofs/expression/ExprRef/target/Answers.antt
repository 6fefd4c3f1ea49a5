use Rattle.dw_op.proofs.Judgement.{accepted_block}
use Rattle.dw_op.proofs.expression.ExprRef.target.Goals as goal

pub returns-clause-block : goal.returns-clause-block
returns-clause-block c =
    let e = c.self.inside in
    rw (← c.self.view_is) (e.bytes.now, accepted_block e.target e.bytes.now c.self.invariant.1 c.self.invariant.0)
