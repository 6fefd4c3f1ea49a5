use Rattle.dw_section.proofs.{Words.{refl, inl, inr, piece_in, FdeHolds}, FdeWalk.says_holds, Stages.all_push, Between.{walk_start, walk_next, walk_end, walk_stuck}}
use Rattle.dw_section.proofs.header.or_fields_fault.Goals as goal

pub pieces-init : goal.pieces-init
pieces-init c = walk_start (λ ps left. left) (λ ps left. tt)

pub pieces-preserved : goal.pieces-preserved
pieces-preserved c = walk_next _ _ _ c.pieces.invariant c.in-Some.ensures.on.0 c.in-Some.ensures.gives
    (λ ps p w more is. all_push (FdeHolds c.args.target c.args.places.now) w.front (piece_in c.in-Some.piece) w.so (says_holds c.args.target c.args.places.now (piece_in c.in-Some.piece) c.in_default-fde_of.field-0 c.in_default-fde_of.ensures.found))

pub returns-in-Err : goal.returns-in-Err
returns-in-Err c = λ ps left. inl (walk_stuck _ _ c.pieces.invariant c.in-Some.ensures.gives _ _ _ ps left (λ front so. so) c.in-Err.ensures.stuck)

pub returns : goal.returns
returns c = λ ps left. inr (refl, walk_end _ c.pieces.invariant c.in_default.ensures.gives ps left)
