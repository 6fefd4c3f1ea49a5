use Rattle.dw_section.proofs.{Words.{◌≡◌, List, map, drop, AllZip, Piece, Pieces, IsRead, cie_pieces, cie_places}, Between.Between}
use Rattle.dw_section.proofs.header.read_cies.Given as goal

abbrev pub invariant-loop-at : goal.invariant-loop-at
invariant-loop-at l =
    (ps : List Piece) → Pieces l.fn.target l.bytes ps → l.places ≡ cie_places ps
    → Between (λ left. map (λ (p : Piece). p.at) left ≡ drop l.at-index l.places) (λ front. AllZip (IsRead l.fn.target) front l.initials.items) (cie_pieces ps)
