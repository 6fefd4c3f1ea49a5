use Rattle.dw_show.proofs.Words.{◌≡◌, ◌+◌, ◌*◌, ◌/◌, ◌^◌, ◌≤◌, ◌⊎◌, false, digits, Fills}
use Rattle.dw_show.proofs.listing.Listing.hex.Given as goal

abbrev pub invariant-bytes : goal.invariant-bytes
invariant-bytes g l =
    (l.left ≤ 7) × (l.self.len + 2 * l.left ≤ l.fn.self.len + 16)
    × ((l.left ≡ 0) ⊎ (1 ≤ l.number / 2 ^ (8 * l.left))) × Fills l.fn.self l.self (digits 16 false (l.number / 2 ^ (8 * l.left)))

abbrev pub decreases-bytes : goal.decreases-bytes
decreases-bytes g l = l.left
