use Rattle.dw_op.proofs.Judgement.{steps_none}
use Rattle.dw_op.proofs.expression.ExprRef.steps.Goals as goal

pub invariant_of-result : goal.invariant_of-result
invariant_of-result c =
    let e = c.self.inside in
    steps_none e.target e.bytes.now c.new-walker.result c.self.invariant.0 c.new-walker.ensures.so c.new-walker.ensures.measure c.new-walker.ensures.here c.new-walker.ensures.bytes
