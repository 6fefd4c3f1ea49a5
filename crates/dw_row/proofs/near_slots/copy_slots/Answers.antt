use Rattle.dw_row.proofs.{Words.{ap, ◌∙◌, set_at}, Copied.one_copied}
use Rattle.dw_row.proofs.near_slots.copy_slots.Goals as goal

pub slots-preserved : goal.slots-preserved
slots-preserved c =
    let before = c.slots.invariant in let r = c.in-Some.register in (
      c.set.ensures.room,
      one_copied c.slots.left _ c.args.mask r c.args.others.now c.args.slots.now
          c.slots.slots c.set.new.self before.0 before.1 c.in-Some.ensures c.without_first-left.ensures
          (c.set.ensures.set ∙ ap (set_at c.slots.slots r) c.get.ensures),
    )
