use Rattle.dw_show.proofs.{Puts.kept_on, Lent.Endings.on}
use Rattle.dw_show.proofs.section.put_entry.Goals as goal

pub returns : goal.returns
returns g c =
    let at = on g.W.Write.contents _ _ _ _ _ (kept_on g.W.Write.contents _ _ _ _ c.make_room.ensures.stays c.text.ensures.adds) c.hex.ensures.adds in
    let kind = on g.W.Write.contents _ _ _ _ _ at (rw c.kind_text.ensures.text at c.text-2.ensures.adds) in
    let form = on g.W.Write.contents _ _ _ _ _ kind (rw c.form_text.ensures.text at c.text-3.ensures.adds) in
    on g.W.Write.contents _ _ _ _ _ (on g.W.Write.contents _ _ _ _ _ form c.decimal.ensures.adds) c.text-4.ensures.adds
