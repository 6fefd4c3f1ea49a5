use Rattle.dw_show.proofs.{Puts.kept_on, Lent.Endings.on}
use Rattle.dw_show.proofs.texts.put_fde.Goals as goal

pub returns : goal.returns
returns g c =
    let begin = on g.W.Write.contents _ _ _ _ _ (kept_on g.W.Write.contents _ _ _ _ c.make_room.ensures.stays c.text.ensures.adds) c.hex.ensures.adds in
    let end = on g.W.Write.contents _ _ _ _ _ (on g.W.Write.contents _ _ _ _ _ begin c.text-2.ensures.adds) (c.address.ensures.adds c.requires.in_space) in
    let column = on g.W.Write.contents _ _ _ _ _ (on g.W.Write.contents _ _ _ _ _ end c.text-3.ensures.adds) (rw c.from.ensures at c.decimal.ensures.adds) in
    on g.W.Write.contents _ _ _ _ _ column c.text-4.ensures.adds
