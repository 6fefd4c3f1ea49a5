use Rattle.dw_row.proofs.{Words.refl, ChangeLaws.none_listed}
use Rattle.dw_row.proofs.change_list.ChangeList.new.Goals as goal

pub returns : goal.returns
returns c = none_listed _ _ _ 0 c.new.result.items refl c.new.ensures.items
