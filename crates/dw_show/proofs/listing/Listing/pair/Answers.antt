use Rattle.dw_show.proofs.Words.{◌≡◌, ◌*◌, arith, refl, subst, List, ℕ, PAIRS_at, Fills}
use Rattle.dw_show.proofs.listing.Listing.pair.Goals as goal

pub returns-clause-fills : goal.returns-clause-fills
returns-clause-fills g c =
    let n = c.args.number in
    let p = PAIRS_at n c.requires.below in
    let e : 2 * n ≡ n * 2 = omega arith in
    subst (λ (l : List ℕ). Fills c.args.self.now c.text.new.self l) (rw (e, p.0, p.1) refl) c.text.ensures.fills
