-- The value of an expression: DWARF 5, 2.5.
use Rattle.std.specs.Prelude.{ℕ, ◌%◌, List, [], ◌∷◌, length, Option, Some, None, Result, Ok, Err}
use Rattle.dw_num.specs.{Target.address_limit, declared.target.Size.Size}
use Rattle.dw_op.specs.declared.op.Op.{Op}
use Rattle.dw_eval.specs.{Context.{Context, context}, Effect.{effect, leads, ReadsMemory}, Runs.{IsResult, MayFail}, declared.env.Env.Env}
use Rattle.dw_eval.specs.declared.error.{EvalError.EvalError, EvalError.TheVariants.Fault, Kind.Kind, Kind.TheVariants.EmptyResult}

-- before an operation: its index and the stack, the top first
pub record State : Type 0 where
  pub index : ℕ
  pub stack : List ℕ

abbrev pub index_of : State → ℕ
index_of s = s.index

abbrev pub value_step : Context → Op → State → Result State Kind
value_step c op s = leads {S = State} (λ i stack. record { index = i; stack = stack }) s.index (effect c op s.stack)

-- a stack that holds a value, or is empty
abbrev pub first_stack : Size → Option ℕ → List ℕ
first_stack size None = []
first_stack size (Some v) = v % address_limit size ∷ []

-- index 0 and the stack at the start
abbrev pub value_start : List ℕ → State
value_start first = record { index = 0; stack = first }

-- an operation reads from memory
abbrev pub value_reads : Context → Op → State → Type 0
value_reads c op s = ReadsMemory c op s.stack

-- the top
abbrev pub top_of : ℕ → List ℕ → Result ℕ EvalError
top_of len [] = Err (Fault EmptyResult len)
top_of len (v ∷ below) = Ok v

-- with the stack at the start
module _ (ops : List Op) (c : Context) (first : List ℕ) where
  -- the value, or the kind of the fault and the operation's index
  abbrev pub Evaluates : ℕ → Result ℕ EvalError → Type 0
  Evaluates = IsResult index_of (value_step c) ops (value_start first) (λ s. top_of (length ops) s.stack)

  -- operation i is reached before the limit, and reads from memory
  abbrev pub MayFailAt : ℕ → ℕ → Type 0
  MayFailAt = MayFail index_of (value_step c) ops (value_start first) (value_reads c)

-- the value of an expression that begins with this on its stack, in an environment over a memory of these bytes
abbrev pub EvaluatesIn : List Op → Option ℕ → Env → (ℕ → Option ℕ) → ℕ → Result ℕ EvalError → Type 0
EvaluatesIn ops start env byte = Evaluates ops (context env byte) (first_stack env.target.size start)

-- operation i of it is reached before the limit, and reads from memory
abbrev pub MayFailIn : List Op → Option ℕ → Env → (ℕ → Option ℕ) → ℕ → ℕ → Type 0
MayFailIn ops start env byte = MayFailAt ops (context env byte) (first_stack env.target.size start)
