use Rattle.dw_cfa.proofs.Words.{◌≡◌, None, length}
use Rattle.dw_cfa.specs.Inner.RowSteps.{rows_before}
use Rattle.dw_cfa.proofs.rows.collected.Given as goal

abbrev pub invariant-rows : goal.invariant-rows
invariant-rows l = (l.steps.error ≡ None) × (l.initial.steps.outcome ≡ rows_before l.rows.items l.steps.outcome)

abbrev pub decreases-rows : goal.decreases-rows
decreases-rows l = length l.steps.outcome.rows
