use Rattle.dw_op.proofs.{Words.{length, map, bare, block_input}, Judgement.CheckSo}
use Rattle.dw_op.proofs.block.decode_ops.Given as goal

abbrev pub invariant-ops : goal.invariant-ops
invariant-ops l = CheckSo (block_input l.fn.target l.fn.bytes) (map bare l.ops.items) l.walker

abbrev pub decreases-ops : goal.decreases-ops
decreases-ops l = length l.walker.here.bytes
