use Rattle.dw_section.proofs.{Words.{◌-◌, place_behind}, BehindCie.Listed}
use Rattle.dw_section.proofs.change.list_differences.Given as goal

abbrev pub invariant-registers : goal.invariant-registers
invariant-registers l = Listed l.steps.kept l.steps.steps.current l.changed l.keeps (place_behind l.last)

abbrev pub decreases-registers : goal.decreases-registers
decreases-registers l = 65536 - place_behind l.last
