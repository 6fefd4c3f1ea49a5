use Rattle.dw_cfa.proofs.Words.{◌≡◌, ◌||◌, None, length, false, lacks_from, RunsSo, rows_left}
use Rattle.dw_cfa.proofs.coverage.lacks_rule.Given as goal

abbrev pub invariant-instrs : goal.invariant-instrs
invariant-instrs l =
    RunsSo l.machine l.cursor × (l.low ≡ l.machine.location)
    × (l.machine.initial ≡ l.initial.machine.initial) × (l.machine.states.kept ≡ l.initial.machine.states.kept)
    × ((rows_left l.factors l.initial.cursor l.initial.machine).fault ≡ (rows_left l.factors l.cursor l.machine).fault)
    × ((rows_left l.factors l.cursor l.machine).fault ≡ None
    → (l.lacks || lacks_from l.end 0 false (rows_left l.factors l.cursor l.machine).rows) ≡ lacks_from l.end 0 false (rows_left l.factors l.initial.cursor l.initial.machine).rows)

abbrev pub decreases-instrs : goal.decreases-instrs
decreases-instrs l = length l.cursor.bytes
