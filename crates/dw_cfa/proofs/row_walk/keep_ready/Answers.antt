use Rattle.dw_cfa.proofs.Walks.{left_kept}
use Rattle.dw_cfa.proofs.row_walk.keep_ready.Goals as goal

pub returns-clause-left : goal.returns-clause-left
returns-clause-left c =
    let led = c.in_ok-ready.ensures.ok in
    left_kept c.args.leading.now c.ready.new.machine c.keep.new.self.kept c.are_bytes.ensures led.initial led.row c.in_ok-keep.ensures.ok
