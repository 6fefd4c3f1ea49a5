use Rattle.dw_cfa.proofs.{Words.{◌≡◌, ap, refl, sym, ◌∙◌, inl, inr, stepping, Progress, Walking, initial_of, led_rows, walk_of}, Walks.{led_stuck, walk_from}}
use Rattle.dw_cfa.proofs.row_walk.RowWalk.keep_initial.Goals as goal

pub returns-in-Ok-clause-begun : goal.returns-in-Ok-clause-begun
returns-in-Ok-clause-begun c =
    let w = c.self.inside in
    let none = sym (ap (λ (k : Walking). k.initial) c.self.view_is) ∙ ap (λ (p : Progress). initial_of p w.machine.initial) c.in-Begun.is in
    let rows = walk_from w.progress w.leading w.fde w.machine c.args.self.now.steps (inl c.in-Begun.is) (ap (λ (k : Walking). k.steps) c.self.view_is) in
    ((λ _. (none, rows.some)), (λ _. refl))

pub returns-in-Err-clause-failed : goal.returns-in-Err-clause-failed
returns-in-Err-clause-failed c =
    let w = c.self.inside in
    let old : c.args.self.now.steps ≡ stepping w.machine.states.row (led_rows w.leading w.fde w.machine.location) = sym (ap (λ (k : Walking). k.steps) c.self.view_is) ∙ ap (λ (p : Progress). walk_of p w.leading w.fde w.machine) c.in-Begun.is in
    rw (c.fail.ensures.progress, c.fail.ensures.error, old) (refl, refl, inr (refl, led_stuck w.leading w.fde w.machine.location c.in-Err.error c.in-Err.ensures.err))
