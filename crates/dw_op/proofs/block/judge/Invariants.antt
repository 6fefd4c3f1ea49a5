use Rattle.dw_op.proofs.{Words.{List, length, Op, block_input}, Judgement.CheckSo}
use Rattle.dw_op.proofs.block.judge.Given as goal

abbrev pub invariant-ops : goal.invariant-ops
invariant-ops l = (ops : List Op) × CheckSo (block_input l.fn.target l.fn.bytes) ops l.walker

abbrev pub decreases-ops : goal.decreases-ops
decreases-ops l = length l.walker.here.bytes
