use Rattle.dw_show.proofs.Words.{◌≡◌, ◌∙◌, ◌+◌, ◌-◌, ◌++◌, List, ℕ, length, take, drop, ap, arith, subst, sym, length-drop, take-add, take_rest, Appends, Appends-trans}
use Rattle.dw_show.proofs.listing.write_front.Goals as goal

-- one piece more of a text
piece_more : (done n : ℕ) (text : List ℕ) → take done text ++ take n (take (length text - done) (drop done text)) ≡ take (done + n) text
piece_more done n text = ap (λ (l : List ℕ). take done text ++ take n l) (take_rest text done) ∙ sym (take-add done n text)

pub writes-preserved : goal.writes-preserved
writes-preserved g c =
    let text = c.args.bytes.now in
    let done = c.writes.done in
    let n = c.write_once-n.result in
    let most = c.write_once-n.ensures.most in
    let long = length-drop done text in
    let rest = ap length (take_rest text done) in
    let less = c.writes-test.true in
    let old = g.W.Write.contents c.args.out.now in
    let mid = g.W.Write.contents c.writes.out in
    let new = g.W.Write.contents c.write_once-n.new.out in
    let piece = take n (take (length text - done) (drop done text)) in
    (omega (arith, long, rest, most, less), subst (λ (l : List ℕ). Appends old new l) (piece_more done n text) (Appends-trans old mid new (take done text) piece c.writes.invariant.1 c.write_once-n.ensures.took))
