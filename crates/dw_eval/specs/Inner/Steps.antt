-- How the code keeps a step.
use Rattle.std.specs.Prelude.{◌≡◌, ◌⊎◌, ℕ, ◌+◌, ◌%◌, ◌<◌, int_div, List, Result, Ok, Err}
use Rattle.dw_num.specs.{Target.address_limit, declared.target.Size.Size}
use Rattle.dw_op.specs.declared.op.Op.{Op}
use Rattle.dw_op.specs.declared.op.Op.TheVariants.{Abs, Neg, Not, PlusUconst, And, Minus, Mul, Or, Plus, Shl, Shr, Shra, Xor, Eq, Ge, Gt, Le, Lt, Ne}
use Rattle.dw_eval.specs.{Context.{Context, read_at, signed}, Effect.{effect, known, nonzero, on_top, push, push_signed, ReadsAt, ReadsMemory}}
use Rattle.dw_eval.specs.{Effect.{OpEffect, Next, Jump, Faults, on_two}, declared.error.EvalError.EvalError, declared.error.EvalError.TheVariants.{Fault, OutOfMemory}}
use Rattle.dw_eval.specs.declared.{error.Kind.Kind, error.Kind.TheVariants.{Device, StackUnderflow, MissingPiece, Unreadable}, stack.Flow.Flow, stack.Stop.Stop}
use Rattle.dw_eval.specs.declared.stack.Flow.TheVariants as flow
use Rattle.dw_eval.specs.declared.stack.Stop.TheVariants as stop

-- an operation without memory answers its outcome, or want of memory
abbrev pub Does : OpEffect → Result Flow Stop → List ℕ → Type 0
Does outcome (Ok flow.Next) stack = outcome ≡ Next stack
Does outcome (Ok (flow.Jump i)) stack = outcome ≡ Jump i stack
Does outcome (Err (stop.Fault kind)) stack = outcome ≡ Faults kind
Does outcome (Err stop.Device) stack = ⊥
Does outcome (Err stop.OutOfMemory) stack = Unit {0}

-- an operation makes one value of one
abbrev pub IsUnary : Op → Type 0
IsUnary op = (op ≡ Abs) ⊎ ((op ≡ Neg) ⊎ ((op ≡ Not) ⊎ ((n : ℕ) × (op ≡ PlusUconst n))))

-- an operation makes one value of two
abbrev pub IsBinary : Op → Type 0
IsBinary op = (op ≡ And) ⊎ ((op ≡ Minus) ⊎ ((op ≡ Mul) ⊎ ((op ≡ Or) ⊎ ((op ≡ Plus) ⊎ ((op ≡ Shl) ⊎ ((op ≡ Shr) ⊎ ((op ≡ Shra) ⊎ ((op ≡ Xor) ⊎ ((op ≡ Eq) ⊎ ((op ≡ Ge) ⊎ ((op ≡ Gt) ⊎ ((op ≡ Le) ⊎ ((op ≡ Lt) ⊎ (op ≡ Ne))))))))))))))

-- there are no two values
abbrev pub LacksTwo : List ℕ → Type 0
LacksTwo stack = (f : ℕ → ℕ → List ℕ → OpEffect) → on_two stack f ≡ Faults StackUnderflow

-- so does one over a memory, while the count of failures stays; where it grew, this was read
abbrev pub Acts : OpEffect → Type 0 → ℕ → Result Flow Stop → List ℕ → ℕ → Type 0
Acts outcome Read before (Ok flow.Next) stack after = (outcome ≡ Next stack) × (after ≡ before)
Acts outcome Read before (Ok (flow.Jump i)) stack after = (outcome ≡ Jump i stack) × (after ≡ before)
Acts outcome Read before (Err (stop.Fault kind)) stack after = (outcome ≡ Faults kind) × (after ≡ before)
Acts outcome Read before (Err stop.Device) stack after = Read × (before < after)
Acts outcome Read before (Err stop.OutOfMemory) stack after = after ≡ before

-- the second is divided by the top, both signed
abbrev pub divides : Size → List ℕ → OpEffect
divides size stack = on_two stack (λ s t below. nonzero (t % address_limit size) (push_signed size (int_div (signed size s) (signed size t)) below))

-- the top is an address, and the number in so many bytes from there is put in its place
abbrev pub ReadsTop : Context → ℕ → List ℕ → ℕ → Result Flow Stop → List ℕ → ℕ → Type 0
ReadsTop c k old = Acts (on_top old (λ t below. known (Unreadable t k) (read_at c t k) (λ v. push c.target.size v below))) (ReadsAt c k old)

-- an operation acts on the stack
abbrev pub ActsOn : Context → Op → List ℕ → ℕ → Result Flow Stop → List ℕ → ℕ → Type 0
ActsOn c op old = Acts (effect c op old) (ReadsMemory c op old)

-- where an answer leads that an operation at an index gives, or the error
abbrev pub reached : ℕ → Result Flow Stop → Result ℕ EvalError
reached i (Ok flow.Next) = Ok (i + 1)
reached i (Ok (flow.Jump j)) = Ok j
reached i (Err (stop.Fault kind)) = Err (Fault kind i)
reached i (Err stop.Device) = Err (Fault Device i)
reached i (Err stop.OutOfMemory) = Err OutOfMemory

-- why an operation that answers so on the stack is no piece: the stack is too short, or the piece is missing
abbrev pub refusal : ℕ → Result Flow Stop → EvalError
refusal i (Err (stop.Fault StackUnderflow)) = Fault StackUnderflow i
refusal i (Err stop.OutOfMemory) = OutOfMemory
refusal i other = Fault MissingPiece i

-- a step of the code from operation i: it leads to a state, given its index, or to an error
abbrev pub StepsTo : {S : Type 0} → Result S Kind → Type 0 → ℕ → ℕ → (ℕ → S) → Result ℕ EvalError → ℕ → Type 0
StepsTo step Read i before state (Ok next) after = (step ≡ Ok (state next)) × (after ≡ before)
StepsTo step Read i before state (Err OutOfMemory) after = after ≡ before
StepsTo step Read i before state (Err (Fault kind j)) after =
    (j ≡ i) × ((step ≡ Err kind) × (after ≡ before) ⊎ (kind ≡ Device) × (before < after) × Read)
