use Rattle.dw_show.proofs.Words.{length, take, ◌-◌, ◌≤◌, Adds}
use Rattle.dw_show.specs.declared.listing.TheConstants.{ROOM}
use Rattle.dw_show.proofs.listing.Listing.long_text.Given as goal

abbrev pub invariant-pieces : goal.invariant-pieces
invariant-pieces g l =
    (l.done ≤ length l.text) × Adds g.W.Write.contents l.initial.self l.self (take l.done l.text)
    × (l.initial.self.len ≤ ROOM → l.self.len ≤ ROOM)

abbrev pub decreases-pieces : goal.decreases-pieces
decreases-pieces g l = length l.text - l.done
