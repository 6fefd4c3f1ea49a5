-- What a terminal is shown of a text.
use Rattle.std.specs.{Prelude.{ℕ, Bool, ◌&&◌, ◌==◌, not, if◌then◌else◌, List, map}, Char.is_ascii_control}

-- a byte that a terminal takes for an order: a control character, of which a line feed is none
abbrev pub is_order : ℕ → Bool
is_order byte = is_ascii_control byte && not (byte == 10)

-- an order is shown as a question mark
abbrev pub shown : List ℕ → List ℕ
shown bytes = map (λ byte. if is_order byte then 63 else byte) bytes
