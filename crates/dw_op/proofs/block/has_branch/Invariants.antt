use Rattle.dw_op.proofs.{Words.{length, block_input}, Judgement.ReadSo}
use Rattle.dw_op.proofs.block.has_branch.Given as goal

abbrev pub invariant-ops : goal.invariant-ops
invariant-ops l = ReadSo l.profile (block_input l.fn.target l.fn.bytes) l.cursor l.found

abbrev pub decreases-ops : goal.decreases-ops
decreases-ops l = length l.cursor.bytes
