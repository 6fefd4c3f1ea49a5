use Rattle.dw_eval.proofs.{Words.{ap, ◌∙◌, arith, refl, map, Nop, State, bare, err_from_is_err_and, context, index_of, value_step, value_start, value_reads, top_of}, Effects.value_stays, Steps.{access_at, acted, step_more, step_stop, step_limit}}
use Rattle.dw_eval.proofs.evaluation.run.Goals as goal

pub act-answer-requires-clause-access : goal.act-answer-requires-clause-access
act-answer-requires-clause-access g c = access_at c.args.env.now.target c.args.ops.now c.steps.index _ c.requires.range c.steps-test.true

pub returns-in_err-index-clause-so : goal.returns-in_err-index-clause-so
returns-in_err-index-clause-so g c =
    let p = err_from_is_err_and c.from_residual.result c.from_residual.ensures.1 in
    rw (p.1, p.2) (step_stop index_of value_step value_reads (λ len s. top_of len s.stack) _ _ c.args.ops.now (value_start c.args.stack.now) c.steps.taken c.steps.index _ _ (record { index = c.steps.index; stack = c.steps.stack }) _
    (ap (context c.args.env.now) c.steps.invariant.same) c.steps.invariant.runs refl c.steps-test.true c.steps.invariant.count c.args.steps _ (λ k. record { index = k; stack = c.act-answer.new.stack }) _ (omega arith)
    (acted {S = State} (λ k stack. record { index = k; stack = stack }) _ _ _ (λ read. read) _ _ c.act-answer.result _ _ _ c.act-answer.ensures.acts c.in_err-index.ensures))

pub steps-preserved : goal.steps-preserved
steps-preserved g c =
    let p = step_more index_of value_step value_reads (λ len s. top_of len s.stack) _ _ c.args.ops.now (value_start c.args.stack.now) c.steps.taken c.steps.index _ _ (record { index = c.steps.index; stack = c.steps.stack }) _
    (ap (context c.args.env.now) c.steps.invariant.same) c.steps.invariant.runs refl c.steps-test.true c.steps.invariant.count c.in_ok-index.index _ (λ k. record { index = k; stack = c.act-answer.new.stack })
    (value_stays _ (map bare c.args.ops.now) c.requires.range) (λ k. refl)
    (acted {S = State} (λ k stack. record { index = k; stack = stack }) _ _ _ (λ read. read) _ _ c.act-answer.result _ _ _ c.act-answer.ensures.acts c.in_ok-index.ensures) in
    record { runs = p.0; within = p.1; limit = omega arith; same = c.act-answer.ensures.same ∙ c.steps.invariant.same; count = p.2 }

pub returns-then-taken-steps-clause-so : goal.returns-then-taken-steps-clause-so
returns-then-taken-steps-clause-so g c =
    rw c.at.ensures (step_limit index_of value_step value_reads (λ len s. top_of len s.stack) _ _ c.args.ops.now (value_start c.args.stack.now) c.steps.taken c.steps.index _ _ _ Nop (ap (context c.args.env.now) c.steps.invariant.same)
    c.steps.invariant.runs refl c.steps-test.true c.steps.invariant.count c.args.steps (omega arith))
