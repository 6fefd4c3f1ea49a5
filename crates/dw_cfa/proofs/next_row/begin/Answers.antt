use Rattle.dw_cfa.proofs.{Words.{refl, subst, inr, AreBytes}, StaySpecified.led_so, Walks.led_stuck}
use Rattle.dw_cfa.proofs.next_row.begin.Goals as goal

pub returns-in-Ok-clause-so : goal.returns-in-Ok-clause-so
returns-in-Ok-clause-so c =
    led_so c.args.leading.now c.args.fde.now c.args.machine.now c.ready.new.machine c.ready.new.kept c.are_bytes.ensures (subst AreBytes c.rest.ensures c.are_bytes-2.ensures) c.requires.so.stands c.in-Ok.ensures.ok

pub returns-in-Err-clause-entered : goal.returns-in-Err-clause-entered
returns-in-Err-clause-entered c =
    rw c.fail.ensures.error (c.fail.ensures.progress, (refl, refl, inr (refl, led_stuck c.args.leading.now c.args.fde.now c.args.machine.now.location c.in-Err.error c.in-Err.ensures.err)))
