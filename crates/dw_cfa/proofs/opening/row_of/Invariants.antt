use Rattle.dw_cfa.proofs.Words.{◌≡◌, length, answers, answers_row}
use Rattle.dw_cfa.proofs.opening.row_of.Given as goal

abbrev pub invariant-instrs : goal.invariant-instrs
invariant-instrs l = answers_row (answers l.instrs) ≡ answers_row (answers l.initial.instrs)

abbrev pub decreases-instrs : goal.decreases-instrs
decreases-instrs l = length (answers l.instrs)
