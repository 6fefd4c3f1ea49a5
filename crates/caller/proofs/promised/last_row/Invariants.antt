use Rattle.std.proofs.Common.{◌≡◌}
use Rattle.dw_cfa.specs.RuleAt.{last_at}
use Rattle.caller.proofs.promised.last_row.Given as goal

abbrev pub invariant-loop-located : goal.invariant-loop-located
invariant-loop-located l = record {
  can : (goal.iterator-loop-located).can_next l.located-iterator;
  ends : (goal.iterator-loop-located).is_finite l.located-iterator;
  found_so : last_at l.address l.rows ≡ last_at l.address l.located-iterator.iter.rest.now;
}
