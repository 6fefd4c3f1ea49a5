use Rattle.dw_cfa.specs.Inner.RowWalk.{AreLeft}
use Rattle.dw_cfa.proofs.{Words.{subst, Progress, initial_of}, Walks.{goes_on_so, goes_on_stands}}
use Rattle.dw_cfa.proofs.row_walk.RowWalk.advance.Goals as goal

pub returns-in-Ok-clause-stands : goal.returns-in-Ok-clause-stands
returns-in-Ok-clause-stands c =
    let l = c.self.inside.leading in
    let entered = rw c.if-not-branch.false at c.in_ok-enter.ensures.entered in
    let left = subst (λ (p : Progress). AreLeft l (initial_of p c.enter.new.machine.initial)) entered.0 c.in_ok-enter.ensures.so.left in
    goes_on_stands l _ _ _ _ c.in-Ok.start c.in-Ok.ensures.row (rw c.in-Ok.ensures.initial left)

pub invariant_of-self-in-Ok : goal.invariant_of-self-in-Ok
invariant_of-self-in-Ok c =
    let entered = rw c.if-not-branch.false at c.in_ok-enter.ensures.entered in
    goes_on_so _ _ _ _ _ _ _ _ (rw entered.0 at c.in_ok-enter.ensures.so) c.in-Ok.ensures.initial c.in-Ok.ensures.row
