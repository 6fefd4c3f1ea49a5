use Rattle.dw_section.proofs.{Words.{sym}, Stages.handed_on}
use Rattle.dw_section.proofs.standing_fde.look_up.Goals as goal

pub returns-in_err-run-clause-refused : goal.returns-in_err-run-clause-refused
returns-in_err-run-clause-refused c =
    let is = rw c.in-Some.is at c.in_ok-found.ensures.found in
    handed_on c.from_residual-in_err-run.result _ c.from_residual-in_err-run.ensures.1 (rw (is.0, is.1, is.2) at (c.in_err-run.ensures.refused _ (rw (sym is.2) at is.3)))
