use Rattle.dw_op.proofs.Words.{length, map, ◌≡◌, fold, op_line, lines_fed}
use Rattle.dw_op.proofs.equality.feed_steps.Given as goal

abbrev pub invariant-ops : goal.invariant-ops
invariant-ops g l = fold g.H.Hasher.write l.state (lines_fed (map op_line l.steps)) ≡ fold g.H.Hasher.write l.initial.state (lines_fed (map op_line l.initial.steps))

abbrev pub decreases-ops : goal.decreases-ops
decreases-ops g l = length l.steps
