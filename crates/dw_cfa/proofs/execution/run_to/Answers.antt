use Rattle.dw_cfa.proofs.{Words.{ltb-false, ltb-true, sym, ap, ◌∙◌, arith, Outcome}, RowsTo.{row_passed, stops_above}, StopsTo.refused_here}
use Rattle.dw_cfa.proofs.execution.run_to.Goals as goal

pub instrs-preserved : goal.instrs-preserved
instrs-preserved g c =
    let l = c.instrs in
    let moved = c.in-Moved.ensures.turned in (
      moved.so,
      c.in-Moved.ensures.same.0 ∙ l.invariant.1,
      omega (arith, ltb-false _ _ (sym c.is_above.ensures ∙ c.if-is_above.false)),
      row_passed c.args.factors l.cursor (g.K.Keep.machine l.keep) _ _ l.invariant.3 l.invariant.2 _ _ moved,
      sym moved.stop ∙ l.invariant.4,
      c.in-Moved.ensures.same.1 ∙ l.invariant.5,
    )

pub returns-then-is_above-clause-ran : goal.returns-then-is_above-clause-ran
returns-then-is_above-clause-ran g c =
    let l = c.instrs in
    stops_above c.args.factors l.cursor (g.K.Keep.machine l.keep) _ _ l.invariant.3 l.invariant.2 _ _ c.in-Moved.ensures.turned (omega (arith, ltb-true _ _ (sym c.is_above.ensures ∙ c.if-is_above.true)))

pub returns-in-Refused-clause-err : goal.returns-in-Refused-clause-err
returns-in-Refused-clause-err g c =
    let l = c.instrs in
    let refused = c.in-Refused.ensures.turned in
    (sym l.invariant.3.fault ∙ ap (λ (o : Outcome). o.fault) refused, omega (arith, l.invariant.2, l.invariant.4, refused_here c.args.factors l.cursor (g.K.Keep.machine l.keep) c.turn.new.fault refused))
