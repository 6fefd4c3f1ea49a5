-- What an output tells while it is lent.
use Rattle.std.specs.Prelude.{ℕ, ◌-◌, List, ◌∷◌, length, Option, option_map}

-- the name of the loan, how much the output held before, and what it holds: a run that keeps or appends to these bytes neither changes
-- the loan nor takes anything from the output
abbrev pub lent_bytes : ℕ → ℕ → Option (List ℕ) → Option (List ℕ)
lent_bytes name given held = option_map (λ xs. name ∷ (length xs - given) ∷ xs) held
