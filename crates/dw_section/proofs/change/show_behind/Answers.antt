use Rattle.dw_section.proofs.{Words.{Ok, LeavesTo}, BehindCie.{stands_kept}}
use Rattle.dw_section.proofs.change.show_behind.Goals as goal

-- the row that was kept is still that of the CIE
left : (c : goal.After-cie_keeps) → let walk = c.find_change.new.steps in LeavesTo walk.led.factors walk.led.program (Ok walk.kept)
left c = rw (c.find_change.ensures.kept, c.find_change.ensures.led, c.keep_initial.ensures.led) (c.in-Ok.ensures.kept c.if-not-kept.false)

pub returns-clause-beside : goal.returns-clause-beside
returns-clause-beside c = (left c, (c.in_ok-keeps.ensures.beside, c.in_ok-keeps.ensures.only))

pub returns-clause-keeps : goal.returns-clause-keeps
returns-clause-keeps c = λ keeps bytes. c.cie_keeps.ensures c.find_change.new.steps.steps.current (stands_kept c.find_change.new.steps bytes c.find_change.ensures.stands (left c) (c.in_ok-keeps.ensures.keeps keeps))
