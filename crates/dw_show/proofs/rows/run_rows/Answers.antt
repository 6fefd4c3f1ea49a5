use Rattle.dw_show.proofs.{Words.{inl, inr, refl, err_from_is_err_and, Keeps-refl}, Lent.Endings.lent, Members.members_at}
use Rattle.dw_show.proofs.rows.run_rows.Goals as goal

pub returns-in_err-table : goal.returns-in_err-table
returns-in_err-table g c =
    let p = err_from_is_err_and c.from_residual-in_err-table.result c.from_residual-in_err-table.ensures.1 in
    let loads = lent (g.L.Load.gives c.args.files.now) c.args.path.now _ c.as_slice.result.now c.as_slice.ensures.value c.in_ok-bytes.ensures.loads in
    rw p.1 (inl (c.as_slice.result.now, loads, inr (p.0, (c.in_err-table.field-0.0, c.in_err-table.ensures.first, p.2), refl, Keeps-refl _)))

pub returns : goal.returns
returns g c =
    let loads = lent (g.L.Load.gives c.args.files.now) c.args.path.now _ c.as_slice.result.now c.as_slice.ensures.value c.in_ok-bytes.ensures.loads in
    let found = members_at c.args.target c.as_slice.result.now c.in_ok-table.table c.in_ok-table.ensures.found.0 c.accepted.ensures.bytes c.accepted.ensures.accepted in
    inl (c.as_slice.result.now, loads, inl (found.0, (c.in_ok-table.ensures.found.1, found.2), c.put_fdes-put.ensures found.0 found.1))
