use Rattle.dw_show.proofs.{Words.{refl, subst, List, ℕ, Fills}, Digits.pair_at}
use Rattle.dw_show.proofs.listing.Listing.hex_pair.Goals as goal

pub returns-clause-fills : goal.returns-clause-fills
returns-clause-fills g c =
    let p = pair_at c.args.byte c.ranges.byte.fits in
    subst (λ (l : List ℕ). Fills c.args.self.now c.text.new.self l) (rw (p.0, p.1) refl) c.text.ensures.fills
