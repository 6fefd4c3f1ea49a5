use Rattle.dw_show.proofs.{Words.{inl, inr, refl, err_from_is_err_and, Keeps-refl}, Lent.Endings.lent}
use Rattle.dw_show.proofs.section.run_entries.Goals as goal

pub returns-in_err-list : goal.returns-in_err-list
returns-in_err-list g c =
    let p = err_from_is_err_and c.from_residual-in_err-list.result c.from_residual-in_err-list.ensures.1 in
    let loads = lent (g.L.Load.gives c.args.files.now) c.args.path.now _ c.deref.result.now c.deref.ensures.value c.in_ok-bytes.ensures.loads in
    rw p.1 (inl (c.deref.result.now, loads, inr (p.0, (c.in_err-list.field-0.0, c.in_err-list.ensures.first, p.2), refl, Keeps-refl _)))
