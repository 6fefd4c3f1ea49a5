-- What the code answers over a memory.
use Rattle.std.specs.Prelude.{◌≡◌, ℕ, ◌<◌, List, Result, Err}
use Rattle.dw_op.specs.declared.op.Op.{Op}
use Rattle.dw_eval.specs.{Runs.{IsResult, MayFail}, declared.error.EvalError.EvalError}
use Rattle.dw_eval.specs.declared.error.{EvalError.TheVariants.{Fault, OutOfMemory}, Kind.Kind, Kind.TheVariants.Device}

module _ {S : Type 0} (index : S → ℕ) (step : Op → S → Result S Kind) (ops : List Op) (start : S) where
  -- what is answered over a memory: the result or want of memory where its count of failures stayed, and where
  -- it grew a failure of the device
  pub data Answered {A : Type 0} (reads : Op → S → Type 0) (ending : S → Result A EvalError) (limit before : ℕ) (result : Result A EvalError) (after : ℕ) : Type 0 where
    Right : after ≡ before → IsResult index step ops start ending limit result → Answered reads ending limit before result after
    Short : after ≡ before → result ≡ Err OutOfMemory → Answered reads ending limit before result after
    Failed : before < after → (i : ℕ) → result ≡ Err (Fault Device i) → MayFail index step ops start reads limit i → Answered reads ending limit before result after
