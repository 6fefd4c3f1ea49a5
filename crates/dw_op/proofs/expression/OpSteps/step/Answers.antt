use Rattle.dw_op.proofs.Judgement.{left_bad}
use Rattle.dw_op.proofs.expression.OpSteps.step.Goals as goal

pub unreachable-requires : goal.unreachable-requires
unreachable-requires c = left_bad c.self.inside.walker c.in_default.field-0 c.self.invariant c.in_default.ensures
