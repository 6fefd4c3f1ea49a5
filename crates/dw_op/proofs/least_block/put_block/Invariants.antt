use Rattle.dw_op.proofs.{Words.length, LeastSpellings.Putting}
use Rattle.dw_op.proofs.least_block.put_block.Given as goal

abbrev pub invariant-ops : goal.invariant-ops
invariant-ops l = Putting l.target l.fn.bytes l.initial.out.items l.walker l.out.items

abbrev pub decreases-ops : goal.decreases-ops
decreases-ops l = length l.walker.here.bytes
