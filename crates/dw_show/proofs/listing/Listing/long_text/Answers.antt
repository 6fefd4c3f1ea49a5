use Rattle.dw_show.proofs.{Words.{◌≡◌, ◌∙◌, ◌+◌, ◌-◌, ◌≤◌, List, ℕ, ap, arith, drop, length, length-take, subst, sym, take, take-add, Adds}, Puts.{in_room, kept_on}, Lent.Endings.on}
use Rattle.dw_show.proofs.listing.Listing.long_text.Goals as goal

pub pieces-preserved : goal.pieces-preserved
pieces-preserved g c =
    let text = c.args.text.now in
    let done = c.pieces.done in
    let end = c.min-end.result in
    let some = c.pieces-test.true in
    let most : end ≤ length text = omega (arith, c.min-end.ensures) in
    let whole : done + (end - done) ≡ end = omega (arith, c.min-end.ensures, some) in
    let more = sym (take-add done (end - done) text) ∙ ap (λ (k : ℕ). take k text) whole in
    let put = kept_on g.W.Write.contents _ _ _ _ c.make_room.ensures.stays (in_room g.W.Write.contents _ _ _ c.block.ensures.fills) in
    let made = c.make_room.ensures.made in
    let long = length-take (end - done) (drop done text) in (
      most,
      subst (λ (l : List ℕ). Adds g.W.Write.contents c.args.self.now c.block.new.self l) more (on g.W.Write.contents _ _ _ _ _ c.pieces.invariant.1 put),
      λ _. omega (arith, c.block.ensures.len, made, long, c.min-end.ensures),
    )
