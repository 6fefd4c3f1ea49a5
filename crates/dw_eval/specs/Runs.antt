-- A machine that goes through a list of operations: its runs, and the result of each.
use Rattle.std.specs.Prelude.{◌≡◌, ◌⊎◌, ℕ, zero, suc, ◌<◌, ◌≤◌, List, length, slice_get, Some, Result, Ok, Err}
use Rattle.dw_op.specs.declared.op.Op.{Op}
use Rattle.dw_eval.specs.declared.error.{EvalError.EvalError, EvalError.TheVariants.Fault, Kind.Kind, Kind.TheVariants.StepLimit}

-- of states with an index: what the step of an operation makes of a state, and the state at the start
module _ {S : Type 0} (index : S → ℕ) (step : Op → S → Result S Kind) (ops : List Op) (start : S) where
  -- n steps lead from the start to a state
  abbrev pub Runs : ℕ → S → Type 0
  Runs zero state = state ≡ start
  Runs (suc n) state =
      (before : S) × (operation : Op) × Runs n before × (slice_get ops (index before) ≡ Some operation) × (step operation before ≡ Ok state)

  -- the result is that of the end, where a run of at most `limit` steps reaches the list's end
  pub record ReachesEnd {A : Type 0} (ending : S → Result A EvalError) (limit : ℕ) (result : Result A EvalError) : Type 0 where
    pub steps : ℕ
    pub state : S
    pub within_limit : steps ≤ limit
    pub run : Runs steps state
    pub at_end : index state ≡ length ops
    pub gives : result ≡ ending state

  -- the result is the kind at i, where an operation i that a run of less than `limit` steps reaches faults
  pub record ReachesFault {A : Type 0} (limit : ℕ) (result : Result A EvalError) : Type 0 where
    pub steps : ℕ
    pub state : S
    pub operation : Op
    pub kind : Kind
    pub below_limit : steps < limit
    pub run : Runs steps state
    pub reached : slice_get ops (index state) ≡ Some operation
    pub faults : step operation state ≡ Err kind
    pub gives : result ≡ Err (Fault kind (index state))

  -- the result is StepLimit at i, where a run of `limit` steps reaches operation i
  pub record ReachesLimit {A : Type 0} (limit : ℕ) (result : Result A EvalError) : Type 0 where
    pub state : S
    pub run : Runs limit state
    pub before_end : index state < length ops
    pub gives : result ≡ Err (Fault StepLimit (index state))

  -- one of these holds, and of one result alone: Laws
  abbrev pub IsResult : {A : Type 0} → (S → Result A EvalError) → ℕ → Result A EvalError → Type 0
  IsResult ending limit result = ReachesEnd ending limit result ⊎ (ReachesFault limit result ⊎ ReachesLimit limit result)

  -- operation i is reached by a run of less than `limit` steps, and reads from memory: there a device may fail
  pub record MayFail (reads : Op → S → Type 0) (limit i : ℕ) : Type 0 where
    pub steps : ℕ
    pub state : S
    pub operation : Op
    pub below_limit : steps < limit
    pub run : Runs steps state
    pub at : index state ≡ i
    pub reached : slice_get ops i ≡ Some operation
    pub reads_memory : reads operation state
