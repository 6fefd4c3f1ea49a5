use Rattle.dw_frame.proofs.{Words.{◌≡◌, ℕ, true, false, subst, ◌==◌, registers_in}, Room.{in_near, in_more, pushed}, frame_room.push_far.Goals.{then-is_empty+in_ok-extend_from_slice, else-is_empty}}
use Rattle.dw_frame.proofs.frame_room.push_far.Goals as goal

pub returns : goal.returns
returns c =
    let near = c.args.near.now in
    let more = c.args.more.now.items in
    let now : c.if-is_empty.more.items ≡ registers_in near 64 more = elim c.if-is_empty.branch [
      | then-is_empty+in_ok-extend_from_slice w ↦ rw (w.more-is, w.in_ok-extend_from_slice.ensures.items) (in_near near more c.requires (subst (λ (n : ℕ). true ≡ (n == 0)) c.args.more.now.ok.0 w.if-is_empty.ensures))
      | else-is_empty w ↦ rw w.more-is (in_more near more (subst (λ (n : ℕ). false ≡ (n == 0)) c.args.more.now.ok.0 w.if-is_empty.ensures))
    ] in
    rw c.in_ok-push.ensures.items (pushed near more c.if-is_empty.more.items c.args.entry now)
