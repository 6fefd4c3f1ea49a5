use Rattle.dw_eval.proofs.Words.{◌≡◌, ◌≤◌, ◌-◌, length, map, bare, context, state_of, PlaceRuns}
use Rattle.dw_eval.proofs.description.run.Given as goal

abbrev pub invariant-steps : goal.invariant-steps
invariant-steps g l = record {
  runs : PlaceRuns (map bare l.ops) (context l.env (g.M.Memory.byte l.initial.memory)) l.taken (state_of l.index l.description);
  within : l.index ≤ length l.ops;
  limit : l.taken ≤ l.steps;
  same : g.M.Memory.byte l.memory ≡ g.M.Memory.byte l.initial.memory;
  count : g.M.Memory.failures l.memory ≡ g.M.Memory.failures l.initial.memory;
}

abbrev pub decreases-steps : goal.decreases-steps
decreases-steps g l = l.steps - l.taken
