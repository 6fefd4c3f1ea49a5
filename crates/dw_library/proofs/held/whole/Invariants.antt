use Rattle.dw_library.proofs.Words.{◌≡◌, ℕ, ◌+◌, ◌<◌, drop, byte_among}
use Rattle.dw_library.proofs.held.whole.Given as goal

abbrev pub invariant-windows : goal.invariant-windows
invariant-windows l = (k : ℕ) → k < l.len → byte_among l.bytes (drop l.i l.windows) (l.address + k) ≡ byte_among l.bytes l.windows (l.address + k)
