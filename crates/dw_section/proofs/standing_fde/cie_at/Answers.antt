use Rattle.dw_section.proofs.Words.{ap, Piece}
use Rattle.dw_section.proofs.standing_fde.cie_at.Goals as goal

pub returns-in_default-clause-only : goal.returns-in_default-clause-only
returns-in_default-clause-only c = λ p stands at kind. rw c.in_default.is at (c.in_ok-piece.ensures.only p stands at)

pub returns-in-Cie-clause-only : goal.returns-in-Cie-clause-only
returns-in-Cie-clause-only c = λ p stands at kind. rw c.in-Some.is at (c.in_ok-piece.ensures.only p stands at)

pub returns-in-Fde-clause-only : goal.returns-in-Fde-clause-only
returns-in-Fde-clause-only c = λ p stands at kind.
    let same = rw c.in-Some.is at (c.in_ok-piece.ensures.only p stands at) in
    let other = ap (λ (q : Piece). q.kind) same in
    let is = c.in-Fde.is in
    absurd cc
