use Rattle.dw_section.proofs.{Words.{subst, IfOk, IfErr, CieStuck, IsRead, Piece, initial_in, ◌≡◌, StandsIn}, Lent.HeaderLaws.cie_stuck}
use Rattle.dw_section.specs.declared.entry.Kind.TheVariants as kind
use Rattle.dw_section.proofs.header.read_cie_at.Goals as goal

pub unreachable-requires : goal.unreachable-requires
unreachable-requires c = let p = c.requires.stands in rw c.in-None.is at (c.in_ok-piece.ensures.only p.0 p.1 p.2 p.3)

pub returns-in_err-piece-clause-stuck : goal.returns-in_err-piece-clause-stuck
returns-in_err-piece-clause-stuck c = λ p stands at kind. absurd (c.in_err-piece.ensures.only p stands at kind)

pub returns : goal.returns
returns c =
    let is = rw c.in-Some.is at c.in_ok-piece.ensures.found in
    let same = λ (p : Piece) (stands : StandsIn c.args.target.order c.args.bytes.now p) (at : p.at ≡ c.args.at) (cie : p.kind ≡ kind.Cie). rw c.in-Some.is at (c.in_ok-piece.ensures.only p stands at cie) in
    record {
      found = λ p stands at cie. subst (λ (q : Piece). IfOk c.read_initial.result (IsRead c.args.target q)) (same p stands at cie) c.read_initial.ensures.found;
      stuck = λ p stands at cie.
          subst (λ (q : Piece). IfErr c.read_initial.result (CieStuck c.args.target q)) (same p stands at cie) (cie_stuck initial_in c.args.target _ c.read_initial.result is.1 c.read_initial.ensures.exact);
    }
