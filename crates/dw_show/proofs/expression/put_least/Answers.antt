use Rattle.dw_show.proofs.{Words.{◌∙◌, ℕ, List, subst, sym, Adds}, HexLines.least_some, Puts.{kept_on, on_kept}, Lent.Endings.on}
use Rattle.dw_show.proofs.expression.put_least.Goals as goal

pub returns : goal.returns
returns g c =
    let put = on g.W.Write.contents _ _ _ _ _ (kept_on g.W.Write.contents _ _ _ _ c.make_room.ensures.stays c.text-2.ensures.adds) c.put_hex.ensures in
    let all = on g.W.Write.contents _ _ _ _ _ (on_kept g.W.Write.contents _ _ _ _ put c.make_room-2.ensures.stays) c.text-3.ensures.adds in
    let some = least_some c.args.least.now (sym c.is_empty.ensures ∙ c.if-is_empty.false) in
    subst (λ (t : List ℕ). Adds g.W.Write.contents c.args.out.now c.text-3.new.self t) (sym some) all
