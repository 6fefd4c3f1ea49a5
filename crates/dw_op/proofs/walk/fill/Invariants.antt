use Rattle.dw_op.proofs.{Words.{◌-◌, length}, Marked.FillSo}
use Rattle.dw_op.proofs.walk.fill.Given as goal

abbrev pub invariant-marks : goal.invariant-marks
invariant-marks l = FillSo l.measure l.fn.window l.marks.items l.low l.count l.cursor

abbrev pub decreases-marks : goal.decreases-marks
decreases-marks l = 192 - length l.marks.items
