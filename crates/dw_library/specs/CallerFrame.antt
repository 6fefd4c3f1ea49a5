-- What a caller in C is told of a frame.
use Rattle.std.specs.Prelude.{◌≡◌, ◌⊎◌, ℕ, List, [], ◌∷◌, Result, map, length, Option, Some, None, Ok, Err, nat_eq, if◌then◌else◌}
use Rattle.dw_num.specs.declared.{refusal.Refusal.Refusal, target.Target.Target}
use Rattle.dw_eval.specs.{Kinds.kind_entry, Registers.held, declared.error.Kind.Kind}
use Rattle.dw_eval.specs.declared.policy.{Policy.Policy, Policy.TheVariants.{SameValue, Undefined}}
use Rattle.dw_eval.specs.declared.error.Kind.TheVariants as kinds
use Rattle.dw_section.specs.Accepted.{Accepted, CheckFault}
use Rattle.dw_frame.specs.{Frames.stopped, declared.frame.Column.Column}
use Rattle.dw_frame.specs.declared.frame.{Column.TheVariants.{Cfa, Register as RegisterColumn}, Frame.{Frame as CallerFrame}, UnwindError.UnwindError}
use Rattle.dw_frame.specs.declared.frame.UnwindError.TheVariants as errors
use Rattle.dw_unwind.specs.Unwound.{Unwound}
use Rattle.dw_library.specs.{Answers.{refused, out_of_memory, bad_argument, not_refused, told}, Registers.{given_in, told_register, AreTold}}
use Rattle.dw_library.specs.{Windows.byte_among, declared.answer.Refused.Refused, declared.caller.Fault.Fault}
use Rattle.dw_library.specs.declared.{caller.Frame.Frame, held.Held.Held, caller.Stop.Stop, held.Register.Register, held.Window.Window}

-- what a register is taken as that no instruction has set: 0 for unchanged, 1 for undefined
abbrev pub policy_of : ℕ → Option Policy
policy_of unset = if nat_eq unset 0 then Some SameValue else (if nat_eq unset 1 then Some Undefined else None)

-- ---- frames and faults as they are told

abbrev pub column_of : Column → ℕ
column_of Cfa = 65536
column_of (RegisterColumn r) = r

abbrev pub no_fault : Fault
no_fault = record { column = 0; kind = 0; index = 0; address = 0; len = 0; wanted = 0 }

abbrev pub fault_in : Column → Fault
fault_in column = record { column = column_of column; kind = 0; index = 0; address = 0; len = 0; wanted = 0 }

-- a read of so many bytes from an address on, in a column or in an operation of its expression
abbrev pub fault_of_read : Column → ℕ → ℕ → ℕ → ℕ → Fault
fault_of_read column kind index a k = record { column = column_of column; kind = kind; index = index; address = a; len = k; wanted = 0 }

-- a register that holds nothing
abbrev pub fault_of_register : Column → ℕ → ℕ → ℕ → Fault
fault_of_register column kind index r = record { column = column_of column; kind = kind; index = index; address = 0; len = 0; wanted = r }

-- in an expression, with what it wanted
abbrev pub fault_of_kind : Kind → ℕ → Column → Fault
fault_of_kind (kinds.Unreadable a k) index column = fault_of_read column 4 index a k
fault_of_kind (kinds.NoRegister r) index column = fault_of_register column 3 index r
fault_of_kind kind index column = record { column = column_of column; kind = (kind_entry kind).0; index = index; address = 0; len = 0; wanted = 0 }

abbrev pub told_fault : UnwindError → Fault
told_fault (errors.Eval kind index column) = fault_of_kind kind index column
told_fault (errors.Unreadable column a k) = fault_of_read column 0 0 a k
told_fault (errors.NoRegister column r) = fault_of_register column 0 0 r
told_fault (errors.Device column) = fault_in column
told_fault errors.NoFde = no_fault
told_fault errors.OutOfMemory = no_fault

abbrev pub status_of : UnwindError → ℕ
status_of errors.NoFde = 5
status_of (errors.Eval kind index column) = 6
status_of (errors.Unreadable column a k) = 7
status_of (errors.NoRegister column r) = 8
status_of (errors.Device column) = 9
status_of errors.OutOfMemory = out_of_memory

abbrev pub no_frame : Frame
no_frame = record { cfa = 0; count = 0; return_register = 0; reserved = 0 ∷ 0 ∷ 0 ∷ [] }

abbrev pub told_frame : CallerFrame → Frame
told_frame f = record { cfa = f.cfa; count = length f.registers; return_register = f.return_register; reserved = 0 ∷ 0 ∷ 0 ∷ [] }

-- ---- the frame

-- registers, and windows over one buffer of memory
pub record Machine : Type 0 where
  pub registers : List Register
  pub windows : List Window
  pub memory : List ℕ

abbrev pub held_in : Held → Machine
held_in h = record { registers = h.registers.now; windows = h.windows.now; memory = h.memory.now }

-- a machine that holds this stopped where a section says so: its caller's frame, or the first fault
pub record IsFrame (target : Target) (policy : Policy) (s : List ℕ) (stop : Stop) (m : Machine) (answer : Result CallerFrame UnwindError) : Type 0 where
  pub accepted : Accepted target s
  pub values : List (Option ℕ)
  pub are : (r : ℕ) → held values r ≡ given_in m.registers r
  pub is : Unwound target s stop.pc (stopped target values (byte_among m.memory m.windows)) policy stop.steps answer

-- what a call tells
pub record Told : Type 0 where
  pub status : ℕ
  pub registers : List Register
  pub frame : Frame
  pub refusal : Refused
  pub fault : Fault

-- a status alone
abbrev pub says : ℕ → List Register → Told
says status old = record { status = status; registers = old; frame = no_frame; refusal = not_refused; fault = no_fault }

-- what is told, where the buffer for registers held `old`
abbrev pub IsUnwound : Option Target → Option Policy → List ℕ → Stop → Machine → List Register → Told → Type 0
IsUnwound None policy s stop m old answer = answer ≡ says bad_argument old
IsUnwound (Some target) None s stop m old answer = answer ≡ says bad_argument old
IsUnwound (Some target) (Some policy) s stop m old answer =
    (((f : CallerFrame) × IsFrame target policy s stop m (Ok f) × (answer.frame ≡ told_frame f) × AreTold (map told_register f.registers) old answer.status answer.registers)
    × (answer.refusal ≡ not_refused) × (answer.fault ≡ no_fault))
    ⊎ ((r : Refusal) × CheckFault target s r × (answer ≡ record { status = refused; registers = old; frame = no_frame; refusal = told 1 r; fault = no_fault }))
    ⊎ ((e : UnwindError) × IsFrame target policy s stop m (Err e) × (answer ≡ record { status = status_of e; registers = old; frame = no_frame; refusal = not_refused; fault = told_fault e }))
    ⊎ (answer ≡ says out_of_memory old)
