use Rattle.dw_show.specs.declared.failure.Failure.TheVariants.{NoCounter}
use Rattle.dw_show.proofs.{Words.{inl, inr, refl, err_from_is_err_and, Keeps-refl}, Endings.{answered, lacking}}
use Rattle.dw_show.proofs.unwind.put_caller.Goals as goal

pub returns-in_default : goal.returns-in_default
returns-in_default g c = inr (NoCounter, inr (NoCounter, (c.in_default.is, refl), refl), refl, Keeps-refl _)

pub returns-in_err-frame : goal.returns-in_err-frame
returns-in_err-frame g c =
    let p = err_from_is_err_and c.from_residual.result c.from_residual.ensures.1 in
    let why = rw c.target-target.ensures at (lacking _ _ _ (c.in_err-frame.ensures.answered refl)) in
    rw p.1 (inr (p.0, inl (c.in-Some.pc, c.in-Some.is, (c.in_err-frame.field-0.0, why, p.2)), refl, Keeps-refl _))

pub returns : goal.returns
returns g c =
    let frame = rw c.target-target.ensures at (answered _ _ _ (c.in_ok-frame.ensures.answered refl)) in
    inl (c.in_ok-frame.frame, inl (c.in-Some.pc, c.in-Some.is, frame), c.put_frame.ensures)
