-- What a caller in C is told of a frame by an index.
use Rattle.std.specs.Prelude.{◌≡◌, ◌⊎◌, ℕ, List, map, Option, Some, None, Result, Ok, Err}
use Rattle.dw_num.specs.declared.target.Target.{Target}
use Rattle.dw_eval.specs.{Registers.held, declared.policy.Policy.Policy}
use Rattle.dw_section.specs.Ranges.{IsTable, Ranged}
use Rattle.dw_frame.specs.{Frames.stopped, declared.frame.Frame.{Frame as CallerFrame}}
use Rattle.dw_unwind.specs.{UnwoundAt.UnwoundAt, declared.by_index.UnwindAtError.UnwindAtError}
use Rattle.dw_unwind.specs.declared.by_index.UnwindAtError.TheVariants.{BadIndex, Refused, Unwind}
use Rattle.dw_library.specs.Answers.{refused, out_of_memory, bad_argument, not_refused, told}
use Rattle.dw_library.specs.CallerFrame.{Machine, Told, IsUnwound, no_frame, no_fault, says, status_of, told_fault, told_frame}
use Rattle.dw_library.specs.{Registers.{given_in, told_register, AreTold}, Windows.byte_among, declared.caller.Stop.Stop, declared.held.Register.Register}

-- a machine that holds this stopped: its caller's frame by the FDE that stands where an index leads, or why there is none
pub record IsFrameAt (target : Target) (policy : Policy) (s : List ℕ) (index : List Ranged) (stop : Stop) (m : Machine) (answer : Result CallerFrame UnwindAtError) : Type 0 where
  pub values : List (Option ℕ)
  pub are : (r : ℕ) → held values r ≡ given_in m.registers r
  pub is : UnwoundAt target s index stop.pc (stopped target values (byte_among m.memory m.windows)) policy stop.steps answer

-- why there is none, as it is told
abbrev pub fails : UnwindAtError → List Register → Told
fails BadIndex old = says 10 old
fails (Refused r) old = record { status = refused; registers = old; frame = no_frame; refusal = told 1 r; fault = no_fault }
fails (Unwind e) old = record { status = status_of e; registers = old; frame = no_frame; refusal = not_refused; fault = told_fault e }

-- what is told by any index, where the buffer for registers held `old`
abbrev pub IsAnyUnwound : Option Target → Option Policy → List ℕ → List Ranged → Stop → Machine → List Register → Told → Type 0
IsAnyUnwound None policy s index stop m old answer = answer ≡ says bad_argument old
IsAnyUnwound (Some target) None s index stop m old answer = answer ≡ says bad_argument old
IsAnyUnwound (Some target) (Some policy) s index stop m old answer =
    (((f : CallerFrame) × IsFrameAt target policy s index stop m (Ok f) × (answer.frame ≡ told_frame f) × AreTold (map told_register f.registers) old answer.status answer.registers)
    × (answer.refusal ≡ not_refused) × (answer.fault ≡ no_fault))
    ⊎ ((e : UnwindAtError) × IsFrameAt target policy s index stop m (Err e) × (answer ≡ fails e old))
    ⊎ (answer ≡ says out_of_memory old)

-- by the index of an accepted section it is what is told without an index
abbrev pub IsOwnUnwound : Option Target → Option Policy → List ℕ → List Ranged → Stop → Machine → List Register → Told → Type 0
IsOwnUnwound None policy s index stop m old answer = answer ≡ says bad_argument old
IsOwnUnwound (Some target) policy s index stop m old answer = IsTable target s index → IsUnwound (Some target) policy s stop m old answer
