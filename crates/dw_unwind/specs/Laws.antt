-- What holds of frames, for the layers above.
use Rattle.std.specs.Prelude.{◌≡◌, ◌⊎◌, ℕ, List, Some, Err}
use Rattle.dw_num.specs.declared.target.Target.{Target}
use Rattle.dw_eval.specs.{Context.Context, declared.policy.Policy.Policy}
use Rattle.dw_row.specs.Rows.{Rules}
use Rattle.dw_section.specs.Ranges.{Ranged}
use Rattle.dw_frame.specs.{Frames.FrameIs, Laws.{FaultMisses, IsInFrame, column_of}, declared.frame.{Column.Column, UnwindError.UnwindError}}
use Rattle.dw_unwind.specs.{Unwound.{IsCovered, Unwound, UnwindFails}, UnwoundAt.UnwoundAt, declared.by_index.UnwindAtError.TheVariants.Unwind}

-- it is one of the frame of an FDE that covers the address
abbrev pub HasColumn : Target → List ℕ → ℕ → Context → Column → Type 0
HasColumn target s pc c column =
    (register : ℕ) × (row : Rules) × IsCovered target s pc register row × IsInFrame c.register row register column

-- a fault's column, if it names one, is such a column
abbrev pub FaultsInFrame : Type 0
FaultsInFrame = (target : Target) (s : List ℕ) (pc : ℕ) (c : Context) (policy : Policy) (limit : ℕ) (e : UnwindError) (column : Column)
    → Unwound target s pc c policy limit (Err e) ⊎ UnwindFails target s pc c policy limit e → column_of e ≡ Some column → HasColumn target s pc c column

-- that holds of each first fault, by a row, by a section and by an index
pub record WantedIsMissing : Type 0 where
  pub row : (c : Context) (limit : ℕ) (policy : Policy) (row : Rules) (return_register : ℕ) (e : UnwindError)
      → FrameIs c limit policy row return_register (Err e) → FaultMisses c e
  pub frame : (target : Target) (s : List ℕ) (pc : ℕ) (c : Context) (policy : Policy) (limit : ℕ) (e : UnwindError)
      → Unwound target s pc c policy limit (Err e) → FaultMisses c e
  pub by_index : (target : Target) (s : List ℕ) (index : List Ranged) (pc : ℕ) (c : Context) (policy : Policy) (limit : ℕ) (e : UnwindError)
      → UnwoundAt target s index pc c policy limit (Err (Unwind e)) → FaultMisses c e
