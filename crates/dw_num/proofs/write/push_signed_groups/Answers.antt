use Rattle.dw_num.proofs.{Words.{◌+◌, arith, as_signed}, Lent.Shortest.{appends_sleb, as_signed-fits, ends, goes, shortest_signed-last, shortest_signed-next}}
use Rattle.dw_num.proofs.write.push_signed_groups.Goals as goal

pub groups-preserved : goal.groups-preserved
groups-preserved c = record {
  small = omega arith;
  going = rw c.in_ok-push.ensures.items (goes _ _ _ _ _ (rw (shortest_signed-next c.args.is_negative c.groups.rest (c.turn.result + 128) (omega arith) c.groups.invariant.small (omega (arith, c.turn.ensures.value))) at c.groups.invariant.going));
}

pub returns-clause-ok : goal.returns-clause-ok
returns-clause-ok c =
    let last = rw (shortest_signed-last c.args.is_negative c.groups.rest c.turn-2.result (omega arith) c.turn-2.ensures.value) at c.groups.invariant.going in
    rw c.in_ok-push-2.ensures.items (appends_sleb (as_signed c.args.is_negative c.args.magnitude) c.args.out.now.items _ (as_signed-fits c.args.is_negative c.args.magnitude c.requires) (ends _ _ _ _ last))
