use Rattle.std.proofs.lemmas.Fmt.{hex_one_digit, hex_two_digits}
use Rattle.dw_show.proofs.{Words.{◌≡◌, ◌%◌, List, ℕ, false, arith, sym, refl, subst, Fills}, Digits.pair_at}
use Rattle.dw_show.proofs.listing.Listing.hex_byte.Goals as goal

pub returns-then-byte-lt16-clause-fills : goal.returns-then-byte-lt16-clause-fills
returns-then-byte-lt16-clause-fills g c =
    let b = c.args.byte in
    let p = pair_at b c.ranges.byte.fits in
    let same : b % 16 ≡ b = omega (arith, c.if-byte-lt16.true) in
    subst (λ (l : List ℕ). Fills c.args.self.now c.text.new.self l) (rw (p.1, same, hex_one_digit false b c.if-byte-lt16.true) refl) c.text.ensures.fills

pub returns-else-byte-lt16-clause-fills : goal.returns-else-byte-lt16-clause-fills
returns-else-byte-lt16-clause-fills g c =
    subst (λ (l : List ℕ). Fills c.args.self.now c.hex_pair.new.self l) (sym (hex_two_digits false c.args.byte c.if-byte-lt16.false c.ranges.byte.fits)) c.hex_pair.ensures.fills
