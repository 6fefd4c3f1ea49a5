use Rattle.dw_row.proofs.StatesLaws.{none_on_err, since_row, unlisted_held}
use Rattle.dw_row.proofs.states.States.restore.Goals as goal

pub saved_again-requires-clause-saved : goal.saved_again-requires-clause-saved
saved_again-requires-clause-saved c = since_row c.self.view_is c.self.invariant.1 c.if-self.false

pub returns-clause-restored : goal.returns-clause-restored
returns-clause-restored c =
    let new = c.saved_again.new in
    unlisted_held c.self.view_is c.self.invariant.1 c.saved_again.result new.saved new.row new.kept.row c.if-self.false c.saved_again.ensures.watched c.saved_again.ensures.again

pub returns-clause-none : goal.returns-clause-none
returns-clause-none c =
    let s = c.self.inside in
    none_on_err c.saved_again.result c.saved_again.new.saved c.saved_again.new.row.registers s.changes.items s.remembered.items (c.self.invariant.1.unlisted c.if-self.false).2 c.saved_again.ensures.watched
