use Rattle.dw_frame.proofs.Words.{ℕ, Option, ◌≤◌, ListedBelow}
use Rattle.dw_frame.proofs.machine.Machine.add_all_given.Given as goal

abbrev pub invariant-given : goal.invariant-given
invariant-given l = record {
  from : l.from ≤ l.index;
  so_far : (byte : ℕ → Option ℕ) → ListedBelow l.self byte l.cfa l.from l.initial.room → ListedBelow l.self byte l.cfa l.index l.room;
}
