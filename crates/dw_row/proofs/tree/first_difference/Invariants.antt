use Rattle.dw_row.proofs.{Words.length, Difference.BothLeft}
use Rattle.dw_row.proofs.tree.first_difference.Given as goal

abbrev pub invariant-rules : goal.invariant-rules
invariant-rules l = BothLeft l.initial.rules l.initial.others l.rules l.others

abbrev pub decreases-rules : goal.decreases-rules
decreases-rules l = length l.rules
