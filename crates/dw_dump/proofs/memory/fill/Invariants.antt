use Rattle.dw_dump.proofs.Words.{◌≡◌, ℕ, ◌+◌, ◌<◌, get_or, Some, byte_among}
use Rattle.dw_dump.proofs.memory.fill.Given as goal

abbrev pub invariant-loop-i : goal.invariant-loop-i
invariant-loop-i l = (k : ℕ) → k < l.i → byte_among l.bytes (l.address + k) l.ranges ≡ Some (get_or l.buffer k 0)
