use Rattle.dw_section.proofs.{Words.{◌-◌, place_behind}, Dropped.DropsBelow}
use Rattle.dw_section.proofs.change.drop_altered.Given as goal

abbrev pub invariant-registers : goal.invariant-registers
invariant-registers l = DropsBelow l.row (place_behind l.last) l.initial.shared l.shared

abbrev pub decreases-registers : goal.decreases-registers
decreases-registers l = 65536 - place_behind l.last
