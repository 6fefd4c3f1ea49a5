use Rattle.dw_section.proofs.{Words.{length}, Items.Keeps}
use Rattle.dw_section.specs.Inner.Pieces.{ArePlaced}
use Rattle.dw_section.proofs.entry.cut.Given as goal

abbrev pub invariant-items : goal.invariant-items
invariant-items l = Keeps (λ ps. ArePlaced ps l.places) l.fn.target l.bytes l.cursor

abbrev pub decreases-items : goal.decreases-items
decreases-items l = length l.cursor.bytes
