use Rattle.dw_show.specs.Answers.{Cost}
use Rattle.dw_show.proofs.Lent.Endings.{lent, on, printed}
use Rattle.dw_command.proofs.Words.{inl, inr, refl, err_from_is_err_and, Keeps-refl}
use Rattle.dw_command.proofs.forms.run_cost.Goals as goal

pub returns-in_err-costs : goal.returns-in_err-costs
returns-in_err-costs g c =
    let p = err_from_is_err_and c.from_residual-in_err-costs.result c.from_residual-in_err-costs.ensures.1 in
    let loads = lent (g.L.Load.gives c.args.files.now) c.args.path.now _ c.as_slice-bytes.result.now c.as_slice-bytes.ensures.value c.in_ok-bytes.ensures.loads in
    rw p.1 (inl (c.as_slice-bytes.result.now, loads, inr (p.0, rw p.2 c.in_err-costs.ensures, refl, Keeps-refl _)))

pub returns : goal.returns
returns g c =
    let loads = lent (g.L.Load.gives c.args.files.now) c.args.path.now _ c.as_slice-bytes.result.now c.as_slice-bytes.ensures.value c.in_ok-bytes.ensures.loads in
    let cost : Cost = record { normal = c.in_ok-costs.costs.normal; starts = c.in_ok-costs.costs.starts; changes = c.in_ok-costs.costs.changes } in
    let prints = printed g.W.Write.contents _ _ _ _ c.finish.result c.requires.works (on g.W.Write.contents _ _ _ _ _ c.put_pair.ensures c.put_pair-2.ensures) c.finish.ensures.ends in
    inl (c.as_slice-bytes.result.now, loads, inl (cost, c.in_ok-costs.ensures, prints))
