use Rattle.dw_cfa.proofs.{Words.{◌≡◌, ◌≤◌, length, RunsSo, rows_left, stop_left}, RowsTo.Passed}
use Rattle.dw_cfa.proofs.execution.run_to.Given as goal

abbrev pub invariant-instrs : goal.invariant-instrs
invariant-instrs g l =
    let old = g.K.Keep.machine l.initial.keep in
    let now = g.K.Keep.machine l.keep in
    RunsSo now l.cursor × (now.initial ≡ old.initial) × (now.location ≤ l.address) × Passed l.address (rows_left l.factors l.initial.cursor old) (rows_left l.factors l.cursor now)
    × (stop_left l.factors l.cursor now ≡ stop_left l.factors l.initial.cursor old)
    × (now.states.kept ≡ old.states.kept)

abbrev pub decreases-instrs : goal.decreases-instrs
decreases-instrs g l = length l.cursor.bytes
