use Rattle.dw_library.proofs.{Words.{Ok, Err, refl, err_from_is_err_and}, FramesAt.{any_told, own_told}}
use Rattle.dw_library.proofs.caller.unwound_at.Goals as goal

pub returns-in_err-found-clause-any : goal.returns-in_err-found-clause-any
returns-in_err-found-clause-any c =
    let p = err_from_is_err_and c.from_residual.result c.from_residual.ensures.1 in
    rw (p.1, p.2) (any_told _ _ _ _ _ _ _ c.in-Ok.ensures (Err c.in_err-found.field-0.0) (c.in_err-found.ensures.answered refl))

pub returns-in_err-found-clause-own : goal.returns-in_err-found-clause-own
returns-in_err-found-clause-own c = λ t.
    let p = err_from_is_err_and c.from_residual.result c.from_residual.ensures.1 in
    let own = c.in_err-found.ensures.own t in
    rw (p.1, p.2) (own_told _ _ _ _ _ _ _ c.in-Ok.ensures t (Err c.in_err-found.field-0.0) (own.0, own.1, own.2 refl))

pub returns-clause-any : goal.returns-clause-any
returns-clause-any c =
    (c.in_ok-found.found, any_told _ _ _ _ _ _ _ c.in-Ok.ensures (Ok c.in_ok-found.found) (c.in_ok-found.ensures.answered refl), rw c.values-registers.ensures refl, rw c.values-registers.ensures at c.put_registers.ensures)

pub returns-clause-own : goal.returns-clause-own
returns-clause-own c = λ t.
    let own = c.in_ok-found.ensures.own t in
    (c.in_ok-found.found, own_told _ _ _ _ _ _ _ c.in-Ok.ensures t (Ok c.in_ok-found.found) (own.0, own.1, own.2 refl), rw c.values-registers.ensures refl, rw c.values-registers.ensures at c.put_registers.ensures)
