use Rattle.dw_section.proofs.{Words.{length, map, AllZip, PiecesLeft, Has, head_in, CiesHold}, Between.Walk}
use Rattle.dw_section.proofs.header.read_headers.Given as goal

abbrev pub invariant-pieces : goal.invariant-pieces
invariant-pieces l =
    Walk PiecesLeft (CiesHold l.fn.target l.bytes) (λ ps front. AllZip (Has l.fn.target l.places) front (map head_in l.headers.items)) (record { at = 0; bytes = l.bytes; target = l.fn.target }) l.cursor

abbrev pub decreases-pieces : goal.decreases-pieces
decreases-pieces l = length l.cursor.bytes
