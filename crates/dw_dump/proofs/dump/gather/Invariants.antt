use Rattle.dw_dump.proofs.Words.{length}
use Rattle.dw_dump.specs.Inner.Gathered.{SoFar}
use Rattle.dw_dump.proofs.dump.gather.Given as goal

abbrev pub invariant-loop-rest : goal.invariant-loop-rest
invariant-loop-rest l = SoFar l.limit l.text l.rest l.line l.kept

abbrev pub decreases-loop-rest : goal.decreases-loop-rest
decreases-loop-rest l = length l.rest
