use Rattle.dw_row.proofs.Words.{length, place_behind, AreSpecified, SameUnlisted}
use Rattle.dw_row.proofs.among.next_listed_difference.Given as goal

abbrev pub invariant-marks : goal.invariant-marks
invariant-marks l = AreSpecified (place_behind l.fn.behind) l.marks × SameUnlisted (place_behind l.fn.behind) l.marks l.kept.registers l.row.registers

abbrev pub decreases-marks : goal.decreases-marks
decreases-marks l = length l.marks
