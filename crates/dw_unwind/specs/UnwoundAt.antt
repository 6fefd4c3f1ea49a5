-- One frame by an index: that of the FDE which stands where the index leads. The bytes need be no section that is accepted.
use Rattle.std.specs.Prelude.{◌≡◌, ◌⊎◌, ℕ, List, Result, Ok, Err}
use Rattle.dw_num.specs.declared.target.Target.{Target}
use Rattle.dw_op.specs.Faults.{IsWithin}
use Rattle.dw_eval.specs.{Context.Context, declared.policy.Policy.Policy}
use Rattle.dw_row.specs.{Rows.Rules, declared.rule.CfaRule.TheVariants.Unset}
use Rattle.dw_section.specs.{Ranges.{LeadsTo, Ranged, Uncovered}, StandingFde.{LookUpFault, Misleads, RulesOf}}
use Rattle.dw_section.specs.declared.lookup.Fde.{Fde}
use Rattle.dw_frame.specs.Frames.{FrameIs, FrameFails}
use Rattle.dw_unwind.specs.declared.by_index.{UnwindAtError.UnwindAtError, UnwindAtError.TheVariants.{BadIndex, Refused, Unwind}}
use Rattle.dw_frame.specs.declared.frame.{Frame.Frame, UnwindError.UnwindError, UnwindError.TheVariants.{NoFde, OutOfMemory}}

-- an answer of `unwind`, as one by an index
abbrev pub by_index : Result Frame UnwindError → Result Frame UnwindAtError
by_index (Ok frame) = Ok frame
by_index (Err e) = Err (Unwind e)

-- ---- the row

-- an index leads to an FDE that covers an address: its return address register, and the rules there
pub record IsLed (target : Target) (s : List ℕ) (index : List Ranged) (a return_register : ℕ) (row : Rules) : Type 0 where
  pub at : ℕ
  pub leads : LeadsTo index a at
  pub fde : Fde
  pub returns : return_register ≡ fde.return_register
  pub rules : RulesOf target s at a (record { fde = fde; row = row })

-- an index is not that of an accepted section of these bytes: no FDE that covers the address stands where it leads, or the CFA
-- has no rule there
abbrev pub IsBadIndex : Target → List ℕ → List Ranged → ℕ → Type 0
IsBadIndex target s index a = Misleads target s index a ⊎ ((register : ℕ) × (row : Rules) × IsLed target s index a register row × (row.cfa ≡ Unset))

-- why an address has no row by an index
abbrev pub LacksRow : Target → List ℕ → List Ranged → ℕ → UnwindAtError → Type 0
LacksRow target s index a BadIndex = IsBadIndex target s index a
LacksRow target s index a (Refused r) = IsWithin s r × LookUpFault target s index a r
LacksRow target s index a (Unwind NoFde) = Uncovered index a
LacksRow target s index a (Unwind OutOfMemory) = Unit {0}
LacksRow target s index a (Unwind e) = ⊥

-- ---- the frame

module _ (target : Target) (s : List ℕ) (index : List Ranged) (pc : ℕ) (c : Context) (policy : Policy) (limit : ℕ) where
  -- the frame by the row, or its first fault; or why there is no row
  abbrev pub UnwoundAt : Result Frame UnwindAtError → Type 0
  UnwoundAt answer =
      ((e : UnwindAtError) × (answer ≡ Err e) × LacksRow target s index pc e)
      ⊎ ((register : ℕ) × (row : Rules) × IsLed target s index pc register row × ((r : Result Frame UnwindError) × (answer ≡ by_index r) × FrameIs c limit policy row register r))

  -- a column reads memory where the device may fail, and no column before it has a fault
  abbrev pub UnwindAtFails : UnwindError → Type 0
  UnwindAtFails e = (register : ℕ) × (row : Rules) × IsLed target s index pc register row × FrameFails c limit policy row register e
