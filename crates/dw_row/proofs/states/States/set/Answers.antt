use Rattle.dw_row.proofs.StatesLaws.{marked_so, since_row}
use Rattle.dw_row.proofs.states.States.set.Goals as goal

pub invariant_of-self-in_err-set : goal.invariant_of-self-in_err-set
invariant_of-self-in_err-set c =
    let s = c.self.inside in let m = c.mark.ensures in let so = c.self.invariant.1 in let free = c.if-self.false in let row' = c.set.new.current in
    (c.set.ensures.so, marked_so c.self.view_is so c.mark.new.self row' c.set.new.self.row free m.row m.watched (rw c.in_err-set.ensures.err (m.still s.row.registers (since_row c.self.view_is so free))))

pub invariant_of-self-2 : goal.invariant_of-self-2
invariant_of-self-2 c =
    let s = c.self.inside in let m = c.mark.ensures in let so = c.self.invariant.1 in let free = c.if-self.false in let row' = c.set.new.current in (
      c.set.ensures.so,
      marked_so c.self.view_is so c.mark.new.self row' c.set.new.self.row free m.row m.watched
          (rw c.in_ok-set.ensures.ok (c.in_ok-mark.ensures.marked s.row.registers c.args.rule c.ascends.ensures (since_row c.self.view_is so free))),
    )
