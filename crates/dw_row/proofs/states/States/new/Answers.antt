use Rattle.dw_row.proofs.{Words.{◌∙◌, [], Held, Rules, ap, first_if}, Marked.unwatched, StatesLaws.{begun_held, begun_so}}
use Rattle.dw_row.proofs.states.States.new.Goals as goal

pub invariant_of-result : goal.invariant_of-result
invariant_of-result c =
    let row = c.args.row.registers in
    (unwatched c.none.result row c.none.ensures.watched, begun_so c.args.tracked c.args.tracked (λ off. off) c.none-2.result row c.new.result.items c.new-2.result.items c.new.ensures c.new-2.ensures.items c.none-2.ensures.watched)

pub returns : goal.returns
returns c =
    let of_kept = λ (kept : Rules). let h : Held = record { row = c.args.row; stack = []; first = first_if c.args.tracked c.args.row.registers; kept = kept } in h in
    begun_held c.args.tracked c.none-2.result c.args.row c.none.result.row c.new.result.items c.new-2.result.items c.new.ensures c.new-2.ensures.items c.none-2.ensures.watched ∙ ap of_kept c.none.ensures.row
