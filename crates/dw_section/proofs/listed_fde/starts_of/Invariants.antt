use Rattle.dw_section.proofs.Words.{◌≡◌, ◌+◌, ◌≤◌, length, answers, moves_in}
use Rattle.dw_section.proofs.listed_fde.starts_of.Given as goal

abbrev pub invariant-instrs : goal.invariant-instrs
invariant-instrs l = (l.starts + length (answers l.instrs) ≤ 2147483648) × (l.starts + moves_in (answers l.instrs) ≡ 1 + moves_in (answers l.initial.instrs))

abbrev pub decreases-instrs : goal.decreases-instrs
decreases-instrs l = length (answers l.instrs)
