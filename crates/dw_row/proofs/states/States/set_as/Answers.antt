use Rattle.dw_row.proofs.{Words.{rule_in, with_rule}, StatesLaws.{marked_so, ruled_row, set_held, since_row}}
use Rattle.dw_row.proofs.states.States.set_as.Goals as goal

pub invariant_of-self-in_err-mark-2 : goal.invariant_of-self-in_err-mark-2
invariant_of-self-in_err-mark-2 c = rw c.in_err-mark-2.ensures.same (c.mark.ensures.still c.self.inside.row.registers c.self.invariant.0, c.self.invariant.1)

pub invariant_of-self-in_err-copy_rule : goal.invariant_of-self-in_err-copy_rule
invariant_of-self-in_err-copy_rule c =
    let s = c.self.inside in let m = c.mark-2.ensures in let so = c.self.invariant.1 in let free = c.if-self.false in let old = s.row.registers in
    rw c.in_err-copy_rule.ensures.err (c.mark.ensures.still old c.self.invariant.0, marked_so c.self.view_is so c.mark-2.new.self s.row c.mark.new.self.row free m.row m.watched (m.still old (since_row c.self.view_is so free)))

pub invariant_of-self-2 : goal.invariant_of-self-2
invariant_of-self-2 c =
    let s = c.self.inside in let m = c.mark-2.ensures in let so = c.self.invariant.1 in let free = c.if-self.false in let old = s.row.registers in let rule = rule_in c.args.row.now.registers c.args.register in
    rw c.in_ok-copy_rule.ensures.ok (
      c.in_ok-mark.ensures.marked old rule c.ascends.ensures c.self.invariant.0,
      marked_so c.self.view_is so c.mark-2.new.self (with_rule c.args.register rule s.row) c.mark.new.self.row free m.row m.watched (c.in_ok-mark-2.ensures.marked old rule c.ascends.ensures (since_row c.self.view_is so free)),
    )

pub returns-clause-set : goal.returns-clause-set
returns-clause-set c =
    let is = c.self.view_is in let so = c.self.invariant.1 in let row' = c.copy_rule.new.self in let kept' = c.mark.new.self.row in
    ruled_row is so _ row' kept' c.args.register _ c.in_ok-copy_rule.ensures.ok c.mark.ensures.row (set_held is so c.mark-2.new.self row' kept' c.if-self.false c.mark-2.ensures.row c.mark-2.ensures.watched)
