use Rattle.dw_normal.proofs.{Words.{◌-◌, place_behind}, Apartness.SameBelow}
use Rattle.dw_normal.proofs.apart.list_differences.Given as goal

abbrev pub invariant-registers : goal.invariant-registers
invariant-registers l = SameBelow (place_behind l.last) l.registers l.shared l.first

abbrev pub decreases-registers : goal.decreases-registers
decreases-registers l = 65536 - place_behind l.last
