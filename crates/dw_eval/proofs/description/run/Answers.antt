use Rattle.dw_eval.proofs.{Words.{ap, ◌∙◌, arith, refl, map, Nop, bare, err_from_is_err_and, context, state_of, place_index, place_step, place_start, place_reads, pieces_of}, PlaceSteps.place_stays, Steps.{access_at, step_more, step_stop, step_limit}}
use Rattle.dw_eval.proofs.description.run.Goals as goal

pub step-requires-clause-access : goal.step-requires-clause-access
step-requires-clause-access g c = access_at c.args.env.now.target c.args.ops.now c.steps.index _ c.requires.range c.steps-test.true

pub returns-in_err-index-clause-so : goal.returns-in_err-index-clause-so
returns-in_err-index-clause-so g c =
    let p = err_from_is_err_and c.from_residual.result c.from_residual.ensures.1 in
    rw (p.1, p.2) (step_stop place_index place_step place_reads (λ len s. pieces_of len s.pending s.stack s.pieces) _ _ c.args.ops.now place_start c.steps.taken c.steps.index _ _ (state_of c.steps.index c.steps.description) _
    (ap (context c.args.env.now) c.steps.invariant.same) c.steps.invariant.runs refl c.steps-test.true c.steps.invariant.count c.args.steps _ (λ k. state_of k c.step.new.self) _ (omega arith) c.in_err-index.ensures.so)

pub steps-preserved : goal.steps-preserved
steps-preserved g c =
    let p = step_more place_index place_step place_reads (λ len s. pieces_of len s.pending s.stack s.pieces) _ _ c.args.ops.now place_start c.steps.taken c.steps.index _ _ (state_of c.steps.index c.steps.description) _
    (ap (context c.args.env.now) c.steps.invariant.same) c.steps.invariant.runs refl c.steps-test.true c.steps.invariant.count c.in_ok-index.index _ (λ k. state_of k c.step.new.self)
    (place_stays _ (map bare c.args.ops.now) c.requires.range) (λ k. refl) c.in_ok-index.ensures.so in
    record { runs = p.0; within = p.1; limit = omega arith; same = c.in_ok-index.ensures.same ∙ c.steps.invariant.same; count = p.2 }

pub returns-then-taken-steps-clause-so : goal.returns-then-taken-steps-clause-so
returns-then-taken-steps-clause-so g c =
    rw c.at.ensures (step_limit place_index place_step place_reads (λ len s. pieces_of len s.pending s.stack s.pieces) _ _ c.args.ops.now place_start c.steps.taken c.steps.index _ _ (state_of c.steps.index c.steps.description) Nop
    (ap (context c.args.env.now) c.steps.invariant.same) c.steps.invariant.runs refl c.steps-test.true c.steps.invariant.count c.args.steps (omega arith))
