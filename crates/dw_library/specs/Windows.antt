-- Memory that a caller lends: windows of addresses over one buffer.
use Rattle.std.specs.Prelude.{ℕ, ◌+◌, ◌-◌, ◌&&◌, nat_le, nat_lt, Bool, if◌then◌else◌, List, [], ◌∷◌, Option, None, slice_get}
use Rattle.dw_library.specs.declared.held.Window.{Window}

abbrev pub covers : ℕ → Window → Bool
covers a w = nat_le w.address a && nat_lt a (w.address + w.len)

-- the byte of a window at an address that it covers, none where the buffer ends before it
abbrev pub byte_of : List ℕ → ℕ → Window → Option ℕ
byte_of bytes a w = slice_get bytes (w.place + (a - w.address))

-- the byte of the first window that covers an address
abbrev pub byte_among : List ℕ → List Window → ℕ → Option ℕ
byte_among bytes [] a = None
byte_among bytes (w ∷ ws) a = if covers a w then byte_of bytes a w else byte_among bytes ws a
