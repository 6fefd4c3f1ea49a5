-- How the code reads windows.
use Rattle.std.specs.Prelude.{◌≡◌, ◌+◌, ◌<◌, ℕ, List, length, true, Some, slice_index_or}
use Rattle.dw_library.specs.{Windows.{covers, byte_of}, declared.held.Window.Window}

-- a window has these bytes from an address on
abbrev pub Spells : Window → List ℕ → ℕ → List ℕ → Type 0
Spells w bytes address found = (k : ℕ) → k < length found → (covers (address + k) w ≡ true) × (byte_of bytes (address + k) w ≡ Some (slice_index_or found k 0))
