use Rattle.dw_library.proofs.Words.{◌≡◌, drop, byte_among}
use Rattle.dw_library.proofs.held.byte_at.Given as goal

abbrev pub invariant-windows : goal.invariant-windows
invariant-windows l = byte_among l.bytes (drop l.i l.windows) l.address ≡ byte_among l.bytes l.windows l.address
