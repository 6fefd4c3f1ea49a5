use Rattle.dw_row.proofs.{Words.refl, ChangeLaws.none_listed}
use Rattle.dw_row.proofs.change_list.ChangeList.clear.Goals as goal

pub returns : goal.returns
returns c = none_listed c.self.inside.kinds c.self.inside.registers c.self.inside.numbers 0 c.clear.new.self.items refl c.clear.ensures.items
