use Rattle.dw_row.proofs.{Words.{◌≡◌, arith, length, refl, saved_if}, StatesLaws.depth_is}
use Rattle.dw_row.proofs.states.States.depth.Goals as goal

pub returns-then-self : goal.returns-then-self
returns-then-self c =
    let saved = c.self.inside.saved in let one : length (saved_if saved.watched saved.row) ≡ 1 = rw c.if-self.true refl in
    rw c.as_slice-listed.ensures (omega (arith, depth_is c.self.view_is c.self.invariant.1, one))

pub returns-else-self : goal.returns-else-self
returns-else-self c =
    let saved = c.self.inside.saved in let none : length (saved_if saved.watched saved.row) ≡ 0 = rw c.if-self.false refl in
    rw c.as_slice-listed.ensures (omega (arith, depth_is c.self.view_is c.self.invariant.1, none))
