use Rattle.dw_row.proofs.RegisterSets.{more_added, rest_up, tree_next}
use Rattle.dw_row.proofs.register_set.RegisterSet.add_each.Goals as goal

pub registers-preserved : goal.registers-preserved
registers-preserved c =
    let all = c.args.far.now.entries in let xs = c.registers.others in let rest = c.next.new.self in let r = c.in-Some.register.now in let x = c.in-Some.field-0-1.now in
    let step = c.in-Some.ensures.steps in let inv = c.registers.invariant in let added = c.in_ok-add.ensures.added in (
      rest_up xs rest r x step inv.0,
      tree_next all xs rest r x c.args.self.now c.registers.self c.add.new.self step inv.0 added inv.1,
      more_added r c.args.self.now c.registers.self c.add.new.self added inv.2,
    )
