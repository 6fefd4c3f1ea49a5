-- What a caller in C is told of an expression that is evaluated by itself.
use Rattle.std.specs.Prelude.{◌≡◌, ◌⊎◌, ℕ, List, Option, Some, None, Result, Ok, Err, nat_eq, if◌then◌else◌}
use Rattle.dw_num.specs.declared.{refusal.Refusal.Refusal, target.Target.Target}
use Rattle.dw_op.specs.{Faults.{BlockFault, IsBlock}, declared.op.Op.Op, declared.profile.Profile.TheVariants.Location}
use Rattle.dw_eval.specs.{Context.{Context as Surroundings}, Evaluation.{Evaluates, first_stack}, Registers.held}
use Rattle.dw_eval.specs.declared.error.{EvalError.EvalError, EvalError.TheVariants.{Fault as Faults}, Kind.Kind}
use Rattle.dw_frame.specs.declared.frame.Column.TheVariants.{Register as RegisterColumn}
use Rattle.dw_library.specs.Answers.{ok, refused, out_of_memory, bad_argument, not_refused, told}
use Rattle.dw_library.specs.{CallerFrame.{Machine, fault_of_kind, no_fault}, Registers.given_in, Windows.byte_among}
use Rattle.dw_library.specs.declared.{answer.Refused.Refused, caller.Fault.Fault, evaluation.Context.Context}

-- ---- what is given

-- a value that counts where a number is not 0
abbrev pub known_if : ℕ → ℕ → Option ℕ
known_if has value = if nat_eq has 0 then None else Some value

-- what an expression may ask for, over registers and bytes of memory
abbrev pub surroundings : Target → Context → List (Option ℕ) → (ℕ → Option ℕ) → Surroundings
surroundings target c values byte =
    record { target = target; register = held values; byte = byte; frame_base = known_if c.has_frame_base c.frame_base; cfa = known_if c.has_cfa c.cfa; object = known_if c.has_object c.object }

-- ---- the value

-- the value of operations over registers and bytes of memory, or their fault
abbrev pub EvaluatesOf : Target → List Op → Context → List (Option ℕ) → (ℕ → Option ℕ) → Result ℕ EvalError → Type 0
EvaluatesOf target ops c values byte = Evaluates ops (surroundings target c values byte) (first_stack target.size (known_if c.has_start c.start)) c.steps

-- the same over what a machine holds
pub record ValueOf (target : Target) (ops : List Op) (c : Context) (m : Machine) (answer : Result ℕ EvalError) : Type 0 where
  pub values : List (Option ℕ)
  pub are : (r : ℕ) → held values r ≡ given_in m.registers r
  pub is : EvaluatesOf target ops c values (byte_among m.memory m.windows) answer

-- ---- what is told

pub record Told : Type 0 where
  pub status : ℕ
  pub value : ℕ
  pub refusal : Refused
  pub fault : Fault

-- a status alone
abbrev pub says : ℕ → Told
says status = record { status = status; value = 0; refusal = not_refused; fault = no_fault }

-- the fault of an operation, which stands in no column
abbrev pub fault_at : Kind → ℕ → Fault
fault_at kind index = fault_of_kind kind index (RegisterColumn 0)

-- the value of the operations that a block spells, or their fault
abbrev pub TellsValue : Target → List Op → Context → Machine → Told → Type 0
TellsValue target ops c m t =
    ((v : ℕ) × ValueOf target ops c m (Ok v) × (t ≡ record { status = ok; value = v; refusal = not_refused; fault = no_fault }))
    ⊎ ((kind : Kind) × (i : ℕ) × ValueOf target ops c m (Err (Faults kind i)) × (t ≡ record { status = 6; value = 0; refusal = not_refused; fault = fault_at kind i }))

-- or the first fault of a block that spells none
abbrev pub IsEvaluated : Option Target → List ℕ → Context → Machine → Told → Type 0
IsEvaluated None block c m t = t ≡ says bad_argument
IsEvaluated (Some target) block c m t =
    ((ops : List Op) × IsBlock Location target ops block × TellsValue target ops c m t)
    ⊎ ((r : Refusal) × BlockFault Location target block r × (t ≡ record { status = refused; value = 0; refusal = told 1 r; fault = no_fault }))
    ⊎ (t ≡ says out_of_memory)
