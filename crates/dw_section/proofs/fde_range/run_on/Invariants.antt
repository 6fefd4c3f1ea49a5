use Rattle.dw_section.proofs.{Words.{List, length, AllByRecursion, AreJudged, FdeHolds, Head, Headers, HeadsLeft, AreAmong, AreLed, Pieces, PiecesLeft}, Between.Walk}
use Rattle.dw_section.proofs.fde_range.run_on.Given as goal

-- the fields so far hold; and of whatever headers the section has, these were judged
abbrev pub invariant-pieces : goal.invariant-pieces
invariant-pieces l =
    Walk PiecesLeft (Pieces l.fn.target l.bytes) (λ ps. AllByRecursion (FdeHolds l.fn.target l.places)) (record { at = 0; bytes = l.bytes; target = l.fn.target }) l.cursor
    × Walk (HeadsLeft l.places) (Headers l.fn.target l.bytes) (λ hs front. AreJudged l.fn.target hs front l.judged.lacking l.judged.list.items) (record { at = 0; bytes = l.bytes; target = l.fn.target }) l.cursor
    × ((hs : List Head) → AreAmong hs l.initials → AreLed l.fn.target hs l.walks)

abbrev pub decreases-pieces : goal.decreases-pieces
decreases-pieces l = length l.cursor.bytes
