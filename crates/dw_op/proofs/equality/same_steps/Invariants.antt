use Rattle.dw_op.proofs.Words.{length, ◌≡◌, ◌↔◌}
use Rattle.dw_op.proofs.equality.same_steps.Given as goal

abbrev pub invariant-ops : goal.invariant-ops
invariant-ops l = (l.initial.a ≡ l.initial.b) ↔ (l.a ≡ l.b)

abbrev pub decreases-ops : goal.decreases-ops
decreases-ops l = length l.a
