-- What registers hold.
use Rattle.std.specs.Prelude.{ℕ, List, slice_get, Option, option_and_then}

-- what a register holds, where it is within the list and something is held there
abbrev pub held : List (Option ℕ) → ℕ → Option ℕ
held values register = option_and_then (λ value. value) (slice_get values register)
