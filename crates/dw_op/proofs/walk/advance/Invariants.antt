use Rattle.dw_op.proofs.Words.{length, Shifted}
use Rattle.dw_op.proofs.walk.advance.Given as goal

abbrev pub invariant-ops : goal.invariant-ops
invariant-ops l = Shifted l.measure l.initial.window l.low l.count l.window

abbrev pub decreases-ops : goal.decreases-ops
decreases-ops l = length l.window.bytes
