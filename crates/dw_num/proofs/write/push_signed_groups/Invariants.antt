use Rattle.dw_num.proofs.{Words.{◌<◌, ◌^◌, as_signed, shortest_sleb}, Lent.Shortest.IsGoing}
use Rattle.dw_num.proofs.write.push_signed_groups.Given as goal

abbrev pub invariant-groups : goal.invariant-groups
invariant-groups l = record { small : l.rest < 2 ^ 63; going : IsGoing (shortest_sleb (as_signed l.is_negative l.magnitude)) l.fn.out.items l.out.items (shortest_sleb (as_signed l.is_negative l.rest)) }

abbrev pub decreases-groups : goal.decreases-groups
decreases-groups l = l.rest
