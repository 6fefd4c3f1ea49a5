use Rattle.dw_cfa.proofs.Words.{◌≡◌, length, RunsSo, rows_left}
use Rattle.dw_cfa.proofs.next_row.next_row.Given as goal

abbrev pub invariant-instrs : goal.invariant-instrs
invariant-instrs l =
    RunsSo l.machine l.cursor × (l.machine.initial ≡ l.initial.machine.initial) × (rows_left l.factors l.initial.cursor l.initial.machine ≡ rows_left l.factors l.cursor l.machine)
    × (l.machine.states.kept ≡ l.initial.machine.states.kept) × (l.machine.location ≡ l.start)

abbrev pub decreases-instrs : goal.decreases-instrs
decreases-instrs l = length l.cursor.bytes
