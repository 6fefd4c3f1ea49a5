use Rattle.dw_show.proofs.{Puts.kept_on, Lent.Endings.on}
use Rattle.dw_show.proofs.texts.put_number.Goals as goal

pub returns : goal.returns
returns g c = on g.W.Write.contents _ _ _ _ _ (kept_on g.W.Write.contents _ _ _ _ c.make_room.ensures.stays c.text.ensures.adds) c.decimal.ensures.adds
