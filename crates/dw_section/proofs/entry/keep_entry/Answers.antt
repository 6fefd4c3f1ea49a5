use Rattle.dw_section.proofs.Words.{◌∙◌, [], ◌∷◌, ap, length, piece_in, refl, arith, append-nil, filter_map-append, length-append}
use Rattle.dw_section.proofs.entry.keep_entry.Goals as goal

pub returns-in_ok-push-in-Cie : goal.returns-in_ok-push-in-Cie
returns-in_ok-push-in-Cie c = λ ps w.
    let p = piece_in c.args.piece.now in
    let items = c.in_ok-push-in-Cie.ensures.items in
    record { cies = items ∙ rw (filter_map-append, w.cies, c.in-Cie.is) refl; all = omega (arith, w.all, ap length items, length-append c.args.places.now.cies.items (p.at ∷ []), length-append ps (p ∷ [])) }

pub returns-in-Fde : goal.returns-in-Fde
returns-in-Fde c = λ ps w. record { cies = rw (filter_map-append, w.cies, c.in-Fde.is, append-nil) refl; all = omega (arith, w.all, length-append ps (piece_in c.args.piece.now ∷ [])) }
