use Rattle.dw_cfa.proofs.Words.{◌≡◌, length, answers, answers_move}
use Rattle.dw_cfa.proofs.opening.next_moves.Given as goal

abbrev pub invariant-instrs : goal.invariant-instrs
invariant-instrs l = answers_move (answers l.instrs) ≡ answers_move (answers l.initial.instrs)

abbrev pub decreases-instrs : goal.decreases-instrs
decreases-instrs l = length (answers l.instrs)
