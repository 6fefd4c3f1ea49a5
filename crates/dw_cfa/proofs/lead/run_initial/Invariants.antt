use Rattle.dw_cfa.proofs.Words.{◌≡◌, length, initial_row, led_row, placed}
use Rattle.dw_cfa.proofs.lead.run_initial.Given as goal

abbrev pub invariant-instrs : goal.invariant-instrs
invariant-instrs l = led_row l.leading ≡ initial_row (placed l.leading.factors l.cursor) l.row

abbrev pub decreases-instrs : goal.decreases-instrs
decreases-instrs l = length l.cursor.bytes
