use Rattle.dw_row.proofs.Words.{◌-◌, ◌≤◌, CopiedUpTo}
use Rattle.dw_row.proofs.among.copy_each.Given as goal

abbrev pub invariant-slots : goal.invariant-slots
invariant-slots l = (l.place ≤ 128) × CopiedUpTo l.place l.row.registers l.initial.copy.registers l.copy.registers

abbrev pub decreases-slots : goal.decreases-slots
decreases-slots l = 128 - l.place
