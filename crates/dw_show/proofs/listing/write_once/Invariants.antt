use Rattle.dw_show.proofs.Words.{Keeps}
use Rattle.dw_show.proofs.listing.write_once.Given as goal

abbrev pub invariant-loop : goal.invariant-loop
invariant-loop g l = Keeps (g.W.Write.contents l.fn.out) (g.W.Write.contents l.out)
