use Rattle.dw_show.proofs.{Puts.kept_on, Lent.Endings.on, unwind.put_value.Goals.{in-Some, in-None}}
use Rattle.dw_show.proofs.unwind.put_value.Goals as goal

pub returns : goal.returns
returns g c =
    let name = kept_on g.W.Write.contents _ _ _ _ c.make_room.ensures.stays c.text.ensures.adds in
    let number = on g.W.Write.contents _ _ _ _ _ name (rw c.from.ensures at c.decimal.ensures.adds) in
    elim c.match-value.branch [
      | in-Some w ↦
          let value = on g.W.Write.contents _ _ _ _ _ (on g.W.Write.contents _ _ _ _ _ number w.text-in-Some.ensures.adds) w.hex.ensures.adds in
          rw w.in-Some.is (on g.W.Write.contents _ _ _ _ _ value (rw w.out-is at c.text-2.ensures.adds))
      | in-None w ↦ rw w.in-None.is (on g.W.Write.contents _ _ _ _ _ (on g.W.Write.contents _ _ _ _ _ number w.text-in-None.ensures.adds) (rw w.out-is at c.text-2.ensures.adds))
    ]
