-- An output, by what the contracts tell of it.
use Rattle.std.specs.Prelude.{ℕ, List, Option}

-- what was put so far, how much of it the output was not given yet, and how often it failed
pub record Output : Type 0 where
  pub put : Option (List ℕ)
  pub left : ℕ
  pub failures : ℕ
