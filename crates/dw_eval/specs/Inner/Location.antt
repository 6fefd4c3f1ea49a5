-- A description over a memory, step by step.
use Rattle.std.specs.Prelude.{ℕ, List, length, Result}
use Rattle.dw_op.specs.declared.op.Op.{Op}
use Rattle.dw_eval.specs.{Context.Context, Effect.{OpEffect, leads}}
use Rattle.dw_eval.specs.Location.{PlaceState, place_index, with_stack, place_step, place_start, place_reads, pieces_of}
use Rattle.dw_eval.specs.{Runs.Runs, declared.error.EvalError.EvalError, declared.error.Kind.Kind, declared.place.Piece.Piece, Inner.Runs.Answered}

abbrev pub place_led : PlaceState → OpEffect → Result PlaceState Kind
place_led s o = leads (λ i stack. with_stack i stack s) s.index o

module _ (ops : List Op) (c : Context) where
  -- n steps lead to a state
  abbrev pub PlaceRuns : ℕ → PlaceState → Type 0
  PlaceRuns = Runs place_index (place_step c) ops place_start

  -- what the code answers, with its memory's count of failures before and after
  abbrev pub LocatesOver : ℕ → ℕ → Result (List Piece) EvalError → ℕ → Type 0
  LocatesOver = Answered place_index (place_step c) ops place_start (place_reads c) (λ s. pieces_of (length ops) s.pending s.stack s.pieces)
