use Rattle.dw_op.proofs.Words.{◌≡◌, map, bare, start, blank_parts, AreStarts}
use Rattle.dw_op.proofs.least_block.least_starts.Given as goal

abbrev pub invariant-loop-op : goal.invariant-loop-op
invariant-loop-op l = record { starts : AreStarts (blank_parts l.target (map bare l.ops)) l.op-index l.starts.items; end : l.end ≡ start (blank_parts l.target (map bare l.ops)) l.op-index }
