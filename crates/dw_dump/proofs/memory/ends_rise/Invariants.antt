use Rattle.dw_dump.proofs.Words.{ℕ, ◌+◌, ◌<◌, ◌≤◌, get_or, Range, end_of}
use Rattle.dw_dump.proofs.memory.ends_rise.Given as goal

abbrev pub invariant-loop-i : goal.invariant-loop-i
invariant-loop-i l = (k : ℕ) (d : Range) → k + 1 < l.i → end_of (get_or l.list k d) ≤ (get_or l.list (k + 1) d).address
