use Rattle.dw_show.proofs.{Words.{◌≡◌, ◌∙◌, ◌∷◌, ◌++◌, [], ℕ, List, get_or, refl, subst, sym, ap, take, encode_lower, Adds}, HexLines.{encode_more, encode_none, ok_so}, Puts.{kept_on, nothing}, Lent.Endings.on}
use Rattle.dw_show.proofs.texts.put_hex.Goals as goal

pub loop-byte-init : goal.loop-byte-init
loop-byte-init g c = subst (λ (t : List ℕ). Adds g.W.Write.contents c.args.listing.now c.args.listing.now t) (sym encode_none) (nothing g.W.Write.contents c.args.listing.now)

pub loop-byte-preserved : goal.loop-byte-preserved
loop-byte-preserved g c =
    let bytes = c.args.bytes.now in
    let i = c.loop-byte.byte-index in
    let is = c.encode_to_slice.ensures in
    let pair : c.encode_to_slice.new.output ≡ encode_lower (get_or bytes i 0 ∷ []) = ok_so c.encode_to_slice.result (is.fits.1 refl) is.written in
    let text = encode_more bytes i 0 c.loop-byte-test.true ∙ ap (λ (t : List ℕ). encode_lower (take i bytes) ++ t) (sym pair) in
    let put = kept_on g.W.Write.contents _ _ _ _ c.make_room.ensures.stays c.text.ensures.adds in
    subst (λ (t : List ℕ). Adds g.W.Write.contents c.args.listing.now c.text.new.self t) (sym text) (on g.W.Write.contents _ _ _ _ _ c.loop-byte.invariant put)
