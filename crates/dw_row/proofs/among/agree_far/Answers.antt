use Rattle.dw_row.proofs.{Words.{◌∙◌, is_agreed}, RegisterSets.{next_leaves, rest_up}}
use Rattle.dw_row.proofs.among.agree_far.Goals as goal

pub registers-preserved : goal.registers-preserved
registers-preserved c =
    let xs = c.registers.registers in let rest = c.next.new.self in let r = c.in-Some.register.now in let x = c.in-Some.field-0-1.now in
    let step = c.in-Some.ensures.steps in let inv = c.registers.invariant in (
      rest_up xs rest r x step inv.0,
      c.in_ok-agree_at.ensures.cfa ∙ inv.1,
      next_leaves (is_agreed c.args.other.now.registers) c.args.far.now.entries xs rest r x c.args.row.now.registers c.registers.row.registers c.agree_at.new.row.registers step inv.0 c.in_ok-agree_at.ensures.rules inv.2,
    )
