use Rattle.dw_show.proofs.{Words.{inl, inr, refl, err_from_is_err_and, Keeps-refl}, Endings.{answered, lacking}, Puts.kept_on, Lent.Endings.{on, printed}}
use Rattle.dw_show.proofs.expression.put_evaluated.Goals as goal

pub returns-in_err-value : goal.returns-in_err-value
returns-in_err-value g c =
    let p = err_from_is_err_and c.from_residual.result c.from_residual.ensures.1 in
    let why = rw c.target.ensures at (lacking _ _ _ (c.in_err-value.ensures.answered refl)) in
    rw p.1 (inr (p.0, (c.in_err-value.field-0.0, why, p.2), refl, Keeps-refl _))

pub returns : goal.returns
returns g c =
    let value = rw c.target.ensures at (answered _ _ _ (c.in_ok-value.ensures.answered refl)) in
    let number = on g.W.Write.contents _ _ _ _ _ (kept_on g.W.Write.contents _ _ _ _ c.make_room.ensures.stays c.text.ensures.adds) c.hex.ensures.adds in
    let prints = printed g.W.Write.contents _ _ _ _ c.finish.result c.requires.works (on g.W.Write.contents _ _ _ _ _ number c.text-2.ensures.adds) c.finish.ensures.ends in
    inl (c.in_ok-value.value, value, prints)
