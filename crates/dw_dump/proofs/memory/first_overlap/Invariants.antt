use Rattle.dw_dump.proofs.Words.{◌-◌, ◌<◌, ◌≤◌, length, take, AreApart, Meet}
use Rattle.dw_dump.proofs.memory.first_overlap.Given as goal

abbrev pub invariant-loop-meet : goal.invariant-loop-meet
invariant-loop-meet l = record {
  order : l.apart < l.meet;
  within : l.meet ≤ length l.ranges;
  apart : AreApart (take l.apart l.ranges);
  meet : Meet (take l.meet l.ranges);
}

abbrev pub decreases-loop-meet : goal.decreases-loop-meet
decreases-loop-meet l = l.meet - l.apart
