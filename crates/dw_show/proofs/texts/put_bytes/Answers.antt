use Rattle.dw_show.proofs.{Words.{◌≡◌, ◌∙◌, ◌==◌, ℕ, List, [], ◌∷◌, ◌++◌, codes, false, length, refl, subst, sym, encode_lower, Adds}, Puts.kept_on, Lent.Endings.on}
use Rattle.dw_show.specs.OpTexts.{bytes_text}
use Rattle.dw_show.proofs.texts.put_bytes.Goals as goal

bytes_some : (bytes : List ℕ) → (length bytes == 0) ≡ false → bytes_text bytes ≡ codes " " ++ encode_lower bytes
bytes_some [] some = absurd cc
bytes_some (b ∷ bytes) some = refl

pub returns : goal.returns
returns g c =
    let put = on g.W.Write.contents _ _ _ _ _ (kept_on g.W.Write.contents _ _ _ _ c.make_room.ensures.stays c.text-2.ensures.adds) c.put_hex.ensures in
    let some = bytes_some c.args.bytes.now (sym c.is_empty.ensures ∙ c.if-is_empty.false) in
    subst (λ (t : List ℕ). Adds g.W.Write.contents c.args.listing.now c.put_hex.new.listing t) (sym some) put
