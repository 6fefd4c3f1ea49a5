use Rattle.dw_section.proofs.{Words.{Some, arith, item_of}, Items.stuck_before, Left.{left_item, left_none}}
use Rattle.dw_section.proofs.entry.next_piece.Goals as goal

pub returns-in-Ok-Some-clause-gives : goal.returns-in-Ok-Some-clause-gives
returns-in-Ok-Some-clause-gives c = λ ps left.
    let e = c.in-Ok-Some.piece in
    let p = rw c.in-Ok-Some.field-0-is at c.in-Ok-Some.ensures.found in
    let w = rw c.in-Ok-Some.field-0-is at c.in-Ok-Some.ensures.placed in
    rw (w.0, w.1, w.2) (left_item c.gaps.cursor c.next_item.new.cursor (item_of (Some e)) ps p.0 p.1 (c.gaps.invariant.0 ps left))

pub returns-in-Err-clause-gives : goal.returns-in-Err-clause-gives
returns-in-Err-clause-gives c = λ ps left.
    let w = c.gaps.invariant.0 ps left in
    let now = c.gaps.cursor in
    absurd (stuck_before now.target now.at w.items now.bytes c.in-Err.field-0 w.cut.each w.cut.whole (omega (arith, c.gaps-test.true, c.left.ensures)) c.in-Err.ensures.exact)

pub returns-clause-gives : goal.returns-clause-gives
returns-clause-gives c = λ ps left. left_none c.gaps.cursor ps (omega (arith, c.gaps-test.false, c.left.ensures)) (c.gaps.invariant.0 ps left)
