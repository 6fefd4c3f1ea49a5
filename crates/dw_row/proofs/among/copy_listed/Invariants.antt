use Rattle.dw_row.proofs.Words.{length, SameUnlisted}
use Rattle.dw_row.proofs.among.copy_listed.Given as goal

abbrev pub invariant-marks : goal.invariant-marks
invariant-marks l = SameUnlisted 0 l.marks l.copy.registers l.row.registers

abbrev pub decreases-marks : goal.decreases-marks
decreases-marks l = length l.marks
