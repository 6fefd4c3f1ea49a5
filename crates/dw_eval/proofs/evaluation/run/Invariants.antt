use Rattle.dw_eval.proofs.Words.{◌≡◌, ◌≤◌, ◌-◌, length, map, bare, context, ValueRuns}
use Rattle.dw_eval.proofs.evaluation.run.Given as goal

abbrev pub invariant-steps : goal.invariant-steps
invariant-steps g l = record {
  runs : ValueRuns (map bare l.ops) (context l.env (g.M.Memory.byte l.initial.memory)) l.initial.stack l.taken (record { index = l.index; stack = l.stack });
  within : l.index ≤ length l.ops;
  limit : l.taken ≤ l.steps;
  same : g.M.Memory.byte l.memory ≡ g.M.Memory.byte l.initial.memory;
  count : g.M.Memory.failures l.memory ≡ g.M.Memory.failures l.initial.memory;
}

abbrev pub decreases-steps : goal.decreases-steps
decreases-steps g l = l.steps - l.taken
