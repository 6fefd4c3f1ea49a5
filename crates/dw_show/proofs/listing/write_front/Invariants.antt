use Rattle.dw_show.proofs.Words.{length, take, ◌-◌, ◌≤◌, Appends}
use Rattle.dw_show.proofs.listing.write_front.Given as goal

abbrev pub invariant-writes : goal.invariant-writes
invariant-writes g l = (l.done ≤ length l.bytes) × Appends (g.W.Write.contents l.initial.out) (g.W.Write.contents l.out) (take l.done l.bytes)

abbrev pub decreases-writes : goal.decreases-writes
decreases-writes g l = length l.bytes - l.done
