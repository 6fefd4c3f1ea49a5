-- What the code says beside FrameAt.
use Rattle.std.specs.Prelude.{◌≡◌, ◌⊎◌, ℕ, List, map, Result, Ok, Err}
use Rattle.dw_num.specs.declared.target.Target.{Target}
use Rattle.dw_eval.specs.declared.policy.Policy.{Policy}
use Rattle.dw_section.specs.Ranges.{Ranged}
use Rattle.dw_unwind.specs.{UnwoundAt.by_index, declared.by_index.UnwindAtError.UnwindAtError, declared.by_index.UnwindAtError.TheVariants.Unwind}
use Rattle.dw_frame.specs.declared.frame.{Frame.{Frame as CallerFrame}, UnwindError.UnwindError, UnwindError.TheVariants.OutOfMemory}
use Rattle.dw_library.specs.{CallerFrame.{Machine, IsFrame, told_frame}, FrameAt.IsFrameAt, Registers.{AreTold, told_register}}
use Rattle.dw_library.specs.declared.{caller.{Frame.Frame, Stop.Stop}, held.Register.Register}

-- an answer of `unwind`, or want of memory
abbrev pub IsOwn : (Result CallerFrame UnwindError → Type 0) → Result CallerFrame UnwindAtError → Type 0
IsOwn P answer = (r : Result CallerFrame UnwindError) × (answer ≡ by_index r) × ((r ≡ Err OutOfMemory) ⊎ P r)

-- on a machine that stopped
module _ (target : Target) (policy : Policy) (s : List ℕ) (stop : Stop) (m : Machine) where
  -- why there is no frame by any index
  abbrev pub Why : List Ranged → UnwindAtError → Type 0
  Why index e = (e ≡ Unwind OutOfMemory) ⊎ IsFrameAt target policy s index stop m (Err e)

  -- and by that of an accepted section
  abbrev pub WhyOwn : UnwindAtError → Type 0
  WhyOwn e = (e ≡ Unwind OutOfMemory) ⊎ ((u : UnwindError) × (e ≡ Unwind u) × IsFrame target policy s stop m (Err u))

  -- the frame by any index is told, its registers at the front of a buffer that held `old`; or why there is none
  abbrev pub FoundIsTold : List Ranged → List Register → Result ℕ UnwindAtError → Frame → List Register → Type 0
  FoundIsTold index old (Ok status) frame out =
      (f : CallerFrame) × IsFrameAt target policy s index stop m (Ok f) × (frame ≡ told_frame f) × AreTold (map told_register f.registers) old status out
  FoundIsTold index old (Err e) frame out = Why index e

  -- and by that of an accepted section
  abbrev pub OwnIsTold : List Register → Result ℕ UnwindAtError → Frame → List Register → Type 0
  OwnIsTold old (Ok status) frame out =
      (f : CallerFrame) × IsFrame target policy s stop m (Ok f) × (frame ≡ told_frame f) × AreTold (map told_register f.registers) old status out
  OwnIsTold old (Err e) frame out = WhyOwn e
