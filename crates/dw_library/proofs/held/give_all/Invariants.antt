use Rattle.dw_library.proofs.Words.{◌≡◌, ◌≤◌, ℕ, drop, length, held, given_in}
use Rattle.dw_library.proofs.held.give_all.Given as goal

abbrev pub invariant-given : goal.invariant-given
invariant-given l = (l.left ≤ length l.given) × ((r : ℕ) → held l.registers r ≡ given_in (drop l.left l.given) r)

abbrev pub decreases-given : goal.decreases-given
decreases-given l = l.left
