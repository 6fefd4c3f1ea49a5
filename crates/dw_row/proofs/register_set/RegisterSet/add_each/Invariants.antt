use Rattle.dw_row.proofs.Words.{◌≡◌, ◌||◌, ℕ, true, length, AreSpecified, has, in_tree}
use Rattle.dw_row.proofs.register_set.RegisterSet.add_each.Given as goal

abbrev pub invariant-registers : goal.invariant-registers
invariant-registers l =
    AreSpecified 128 l.others × ((r : ℕ) → (in_tree l.others r || has l.self r) ≡ (in_tree l.fn.far.entries r || has l.initial.self r)) × ((r : ℕ) → has l.initial.self r ≡ true → has l.self r ≡ true)

abbrev pub decreases-registers : goal.decreases-registers
decreases-registers l = length l.others
