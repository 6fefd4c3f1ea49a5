use Rattle.dw_show.proofs.{Words.{inl, inr, refl, err_from_is_err_and, Keeps-refl}, Endings.counted, Lent.Endings.{lent, printed, on}, Puts.{kept_on, on_kept}}
use Rattle.dw_show.proofs.section.run_check.Goals as goal

pub returns-in_err-table : goal.returns-in_err-table
returns-in_err-table g c =
    let p = err_from_is_err_and c.from_residual-in_err-table.result c.from_residual-in_err-table.ensures.1 in
    let loads = lent (g.L.Load.gives c.args.files.now) c.args.path.now _ c.as_slice-bytes.result.now c.as_slice-bytes.ensures.value c.in_ok-bytes.ensures.loads in
    rw p.1 (inl (c.as_slice-bytes.result.now, loads, inr (p.0, (c.in_err-table.field-0.0, c.in_err-table.ensures.first, p.2), refl, Keeps-refl _)))

pub returns : goal.returns
returns g c =
    let counts = counted c.args.target c.as_slice-bytes.result.now c.in_ok-table.table c.counts-counts.result c.in_ok-table.ensures.found.0 c.counts-counts.ensures c.in_ok-table.ensures.found.1 in
    let loads = lent (g.L.Load.gives c.args.files.now) c.args.path.now _ c.as_slice-bytes.result.now c.as_slice-bytes.ensures.value c.in_ok-bytes.ensures.loads in
    let cies = on g.W.Write.contents _ _ _ _ _ (kept_on g.W.Write.contents _ _ _ _ c.make_room.ensures.stays c.text.ensures.adds) c.decimal.ensures.adds in
    let fdes = on g.W.Write.contents _ _ _ _ _ (on g.W.Write.contents _ _ _ _ _ cies c.text-2.ensures.adds) c.decimal-2.ensures.adds in
    let name = on g.W.Write.contents _ _ _ _ _ (on_kept g.W.Write.contents _ _ _ _ fdes c.make_room-2.ensures.stays) c.text-3.ensures.adds in
    let all = on g.W.Write.contents _ _ _ _ _ (on g.W.Write.contents _ _ _ _ _ name c.decimal-3.ensures.adds) c.text-4.ensures.adds in
    let prints = printed g.W.Write.contents _ _ _ _ c.finish.result c.requires.works all c.finish.ensures.ends in
    inl (c.as_slice-bytes.result.now, loads, inl (c.counts-counts.result, (c.in_ok-table.ensures.found.1, counts), prints))
