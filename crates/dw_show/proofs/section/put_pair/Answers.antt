use Rattle.dw_show.proofs.{Puts.kept_on, Lent.Endings.on}
use Rattle.dw_show.proofs.section.put_pair.Goals as goal

pub returns : goal.returns
returns g c =
    let name = kept_on g.W.Write.contents _ _ _ _ c.make_room.ensures.stays c.text.ensures.adds in
    let source = on g.W.Write.contents _ _ _ _ _ name c.decimal.ensures.adds in
    let normal = on g.W.Write.contents _ _ _ _ _ (on g.W.Write.contents _ _ _ _ _ source c.text-2.ensures.adds) c.decimal-2.ensures.adds in
    on g.W.Write.contents _ _ _ _ _ normal c.text-3.ensures.adds
