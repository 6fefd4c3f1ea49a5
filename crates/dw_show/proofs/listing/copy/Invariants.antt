use Rattle.dw_show.proofs.Words.{◌≡◌, length, take}
use Rattle.dw_show.proofs.listing.copy.Given as goal

abbrev pub invariant-loop-i : goal.invariant-loop-i
invariant-loop-i l = (length l.room ≡ length l.text) × (take l.i l.room ≡ take l.i l.text)
