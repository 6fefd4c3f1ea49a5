-- One frame, unwound by a section: DWARF 5, 6.4.1.
use Rattle.std.specs.Prelude.{◌≡◌, ◌⊎◌, ℕ, List, Option, Result, Err}
use Rattle.dw_num.specs.{Input.AreBytes, Laws.HoldsOfOne, declared.target.Target.Target}
use Rattle.dw_eval.specs.{Context.Context, declared.policy.Policy.Policy}
use Rattle.dw_row.specs.Rows.{Rules}
use Rattle.dw_section.specs.{Accepted.Accepted, Among.IsAmong, Meaning.{AreFdes, Covers, NoneCovers, RulesAt}, declared.lookup.Fde.Fde}
use Rattle.dw_frame.specs.{Frames.{FrameFails, FrameIs, stopped}, declared.frame.{Frame.Frame, UnwindError.{UnwindError, TheVariants.NoFde}}}

-- ---- the FDE

-- an FDE of a section covers an address: its return address register, and the rules there
pub record IsCovered (target : Target) (s : List ℕ) (a return_register : ℕ) (row : Rules) : Type 0 where
  pub fdes : List Fde
  pub are : AreFdes target s fdes
  pub fde : Fde
  pub among : IsAmong fde fdes
  pub covers : Covers a fde
  pub returns : return_register ≡ fde.return_register
  pub rules : RulesAt target s a row

-- none does
abbrev pub IsUncovered : Target → List ℕ → ℕ → Type 0
IsUncovered target s a = (fdes : List Fde) × AreFdes target s fdes × NoneCovers a fdes

-- ---- the frame

module _ (target : Target) (s : List ℕ) (pc : ℕ) (c : Context) (policy : Policy) (limit : ℕ) where
  -- the caller's frame, or the first fault
  abbrev pub Unwound : Result Frame UnwindError → Type 0
  Unwound answer = ((answer ≡ Err NoFde) × IsUncovered target s pc)
      ⊎ ((register : ℕ) × (row : Rules) × IsCovered target s pc register row × FrameIs c limit policy row register answer)

  -- a column reads memory where the device may fail, and no column before it has a fault
  abbrev pub UnwindFails : UnwindError → Type 0
  UnwindFails e =
      (register : ℕ) × (row : Rules) × IsCovered target s pc register row × FrameFails c limit policy row register e

-- a section gives at most one frame or fault
abbrev pub OneFrame : Type 0
OneFrame = (target : Target) (s : List ℕ) (pc : ℕ) (c : Context) (policy : Policy) (limit : ℕ) (answer other : Result Frame UnwindError)
    → AreBytes s → Accepted target s → Unwound target s pc c policy limit answer → Unwound target s pc c policy limit other → answer ≡ other

-- and it gives a machine that stopped exactly one
abbrev pub SomeFrame : Type 0
SomeFrame = (target : Target) (s : List ℕ) (pc : ℕ) (registers : List (Option ℕ)) (byte : ℕ → Option ℕ) (policy : Policy) (limit : ℕ)
    → AreBytes s → Accepted target s → HoldsOfOne (Unwound target s pc (stopped target registers byte) policy limit)
