use Rattle.dw_cfa.proofs.{Words.{◌≡◌, ◌∙◌, sym, ap, rows_left, Walking}, Covered.lacks_tells, Lent.RunLaws.left_from}
use Rattle.dw_cfa.proofs.row_walk.RowWalk.lacks_rule.Goals as goal

pub returns-in-Ok-clause-found : goal.returns-in-Ok-clause-found
returns-in-Ok-clause-found c =
    let l = c.self.inside.leading in let fde = c.self.inside.fde in let m = c.enter.new.machine in
    let entered = rw c.if-not-branch.false at c.in_ok-enter.ensures.entered in
    let here : c.args.self.now.steps.outcome ≡ rows_left l.factors fde m = sym (ap (λ (k : Walking). k.steps.outcome) c.self.view_is) ∙ entered.2 in
    let found = rw c.copied-cursor.ensures at c.in-Ok.ensures.found in
    rw here (found.0, lacks_tells c.args.end m.location (rows_left l.factors fde m).rows (left_from l.factors fde m).falls c.in-Ok.lacks (found.1 m.location))

pub returns-in-Err-clause-refused : goal.returns-in-Err-clause-refused
returns-in-Err-clause-refused c =
    let entered = rw c.if-not-branch.false at c.in_ok-enter.ensures.entered in
    rw (c.fail.ensures.error, sym (ap (λ (k : Walking). k.steps.outcome) c.self.view_is), entered.2) (rw c.copied-cursor.ensures at c.in-Err.ensures.refused)
