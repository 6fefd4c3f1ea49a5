-- An evaluation over a memory, step by step.
use Rattle.std.specs.Prelude.{ℕ, List, length, Result}
use Rattle.dw_op.specs.declared.op.Op.{Op}
use Rattle.dw_eval.specs.{Context.Context, Effect.{OpEffect, leads}, Evaluation.{State, index_of, value_step, value_start, value_reads, top_of}}
use Rattle.dw_eval.specs.{Runs.Runs, declared.error.EvalError.EvalError, declared.error.Kind.Kind, Inner.Runs.Answered}

-- where an operation leads that stands at an index
abbrev pub led : ℕ → OpEffect → Result State Kind
led i o = leads {S = State} (λ j stack. record { index = j; stack = stack }) i o

-- with the stack at the start
module _ (ops : List Op) (c : Context) (first : List ℕ) where
  -- n steps lead to a state
  abbrev pub ValueRuns : ℕ → State → Type 0
  ValueRuns = Runs index_of (value_step c) ops (value_start first)

  -- what the code answers, with its memory's count of failures before and after
  abbrev pub EvaluatesOver : ℕ → ℕ → Result ℕ EvalError → ℕ → Type 0
  EvaluatesOver = Answered index_of (value_step c) ops (value_start first) (value_reads c) (λ s. top_of (length ops) s.stack)
