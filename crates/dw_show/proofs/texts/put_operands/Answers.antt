use Rattle.dw_show.proofs.{Puts.kept_on, Lent.Endings.on}
use Rattle.dw_show.proofs.texts.put_operands.Goals as goal

pub returns-in-Addr : goal.returns-in-Addr
returns-in-Addr g c = rw c.in-Addr.is (on g.W.Write.contents _ _ _ _ _ (kept_on g.W.Write.contents _ _ _ _ c.make_room.ensures.stays c.text.ensures.adds) c.hex.ensures.adds)

pub returns-in-BitPiece : goal.returns-in-BitPiece
returns-in-BitPiece g c = rw c.in-BitPiece.is (on g.W.Write.contents _ _ _ _ _ c.put_number-in-BitPiece.ensures c.put_number-in-BitPiece-2.ensures)
