use Rattle.dw_section.proofs.Words.{◌≤◌, length, List, Piece, PiecesLeft}
use Rattle.dw_section.specs.Inner.Left.{Stays}
use Rattle.dw_section.proofs.entry.next_piece.Given as goal

abbrev pub invariant-gaps : goal.invariant-gaps
invariant-gaps l = ((ps : List Piece) → PiecesLeft l.initial.cursor ps → PiecesLeft l.cursor ps) × Stays l.initial.cursor l.cursor × (length l.cursor.bytes ≤ length l.initial.cursor.bytes)

abbrev pub decreases-gaps : goal.decreases-gaps
decreases-gaps l = length l.cursor.bytes
