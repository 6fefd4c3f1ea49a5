use Rattle.dw_section.proofs.{Words.{length, AllByRecursion, PiecesLeft, FdeHolds}, Between.Walk}
use Rattle.dw_section.proofs.header.or_fields_fault.Given as goal

abbrev pub invariant-pieces : goal.invariant-pieces
invariant-pieces l = Walk PiecesLeft (PiecesLeft l.initial.cursor) (λ ps. AllByRecursion (FdeHolds l.fn.target l.places)) l.initial.cursor l.cursor

abbrev pub decreases-pieces : goal.decreases-pieces
decreases-pieces l = length l.cursor.bytes
