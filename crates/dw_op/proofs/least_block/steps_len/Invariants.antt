use Rattle.dw_op.proofs.Words.{length, ◌≡◌, ◌+◌, least_len}
use Rattle.dw_op.proofs.least_block.steps_len.Given as goal

abbrev pub invariant-ops : goal.invariant-ops
invariant-ops l = l.total + least_len l.target l.steps ≡ least_len l.target l.initial.steps

abbrev pub decreases-ops : goal.decreases-ops
decreases-ops l = length l.steps
