use Rattle.dw_show.proofs.Words.{length, ReadUpTo}
use Rattle.dw_show.proofs.rows.add_lines.Given as goal

abbrev pub invariant-loop-rest : goal.invariant-loop-rest
invariant-loop-rest l = ReadUpTo l.size l.text l.rest l.line l.fn.addresses.items l.addresses.items

abbrev pub decreases-loop-rest : goal.decreases-loop-rest
decreases-loop-rest l = length l.rest
