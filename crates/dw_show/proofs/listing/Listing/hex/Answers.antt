use Rattle.std.proofs.lemmas.Nat.{shr_le}
use Rattle.dw_show.proofs.{Words.{◌≡◌, ◌∙◌, ◌++◌, ◌-◌, ◌*◌, ◌/◌, ◌%◌, ◌^◌, ◌≤◌, ◌∷◌, [], List, ℕ, false, inl, inr, ap, arith, refl, sym, subst, digits, digit_glyph, Fills}, Digits.{byte_more, byte_of}, Puts.filled}
use Rattle.dw_show.proofs.listing.Listing.hex.Goals as goal

pub bytes-preserved : goal.bytes-preserved
bytes-preserved g c =
    let h = c.bytes.invariant in
    let n = c.args.number in
    let left = c.bytes.left in
    let some_left = c.bytes-test.true in
    let m = n / 2 ^ (8 * (left - 1)) in
    let two : List ℕ = digit_glyph false (m % 256 / 16) ∷ digit_glyph false (m % 256 % 16) ∷ [] in
    let rest : m / 256 ≡ n / 2 ^ (8 * left) = byte_of n left some_left in
    let some : 1 ≤ n / 2 ^ (8 * left) = elim h.2 [ inl none ↦ absurd (omega (arith, none, some_left)) | inr is ↦ is ] in
    let more = byte_more m (m % 256) (omega (arith, rest, some)) (omega (arith, shr_le n (8 * (left - 1)), c.ranges.number.fits)) refl in (
      omega (arith, h.0),
      omega (arith, h.1, c.hex_pair.ensures.len, some_left),
      inr (omega (arith, rest, some)),
      subst (λ (l : List ℕ). Fills c.args.self.now c.hex_pair.new.self l) (ap (λ (k : ℕ). digits 16 false k ++ two) (sym rest) ∙ sym more)
          (filled _ _ _ _ two h.3 c.hex_pair.ensures.fills),
    )
