-- One frame by the rules of a row: DWARF 5, 6.4.1. The CFA comes first, then the listed registers, ascending; the first fault is answered.
use Rattle.std.specs.{Prelude.{◌≡◌, ◌⊎◌, ◌<◌, ◌==◌, ◌||◌, ℕ, List, Bool, true, false, Option, None, is_some, Result, Ok, Err}, List.{AllByRecursion, AllPairs}}
use Rattle.dw_num.specs.declared.target.Target.{Target}
use Rattle.dw_index.specs.Among.{IsAmong}
use Rattle.dw_eval.specs.{Context.Context, Registers.held, declared.policy.Policy.Policy}
use Rattle.dw_eval.specs.declared.error.Kind.TheVariants as kinds
use Rattle.dw_row.specs.Rows.{Rules, rule, is_specified}
use Rattle.dw_frame.specs.Columns.{CfaIs, RegisterIs, CfaFails, RegisterFails}
use Rattle.dw_frame.specs.declared.frame.{Frame.Frame, UnwindError.UnwindError, UnwindError.TheVariants.{Eval, Device}}

-- the machine of a target with these registers, over a memory of these bytes
abbrev pub stopped : Target → List (Option ℕ) → (ℕ → Option ℕ) → Context
stopped target registers byte =
    record { target = target; register = held registers; byte = byte; frame_base = None; cfa = None; object = None }

-- the machine holds a register, or the row specifies it, or it is the return address register
abbrev pub is_listed : (ℕ → Option ℕ) → Rules → ℕ → ℕ → Bool
is_listed held row return_register r = is_some (held r) || (is_specified (rule row r) || (r == return_register))

-- on a machine that stopped, with a row and its return address register
module _ (c : Context) (limit : ℕ) (policy : Policy) (row : Rules) (return_register : ℕ) where
  abbrev pub IsListed : ℕ → Type 0
  IsListed r = is_listed c.register row return_register r ≡ true

  -- the value of register r, or its fault
  abbrev pub Recovers : ℕ → ℕ → Result (Option ℕ) UnwindError → Type 0
  Recovers cfa r answer = RegisterIs c limit policy cfa r (rule row r) answer

  -- a listed register with its value
  abbrev pub IsRegisterEntry : ℕ → ℕ × Option ℕ → Type 0
  IsRegisterEntry cfa entry = IsListed entry.0 × Recovers cfa entry.0 (Ok entry.1)

  -- these are the listed registers, ascending, each with its value
  pub record AreRegisters (cfa : ℕ) (entries : List (ℕ × Option ℕ)) : Type 0 where
    pub rise : AllPairs (λ (x y : ℕ × Option ℕ). x.0 < y.0) entries
    pub each : AllByRecursion (IsRegisterEntry cfa) entries
    pub all : (r : ℕ) → IsListed r → (v : Option ℕ) × IsAmong (r, v) entries

  -- register r is listed, and every listed one before it has a value
  pub record Reached (cfa r : ℕ) : Type 0 where
    pub listed : IsListed r
    pub earlier : (q : ℕ) → q < r → IsListed q → (v : Option ℕ) × Recovers cfa q (Ok v)

  -- the registers, or the first fault among them
  abbrev pub RegistersAre : ℕ → Result (List (ℕ × Option ℕ)) UnwindError → Type 0
  RegistersAre cfa (Ok entries) = AreRegisters cfa entries
  RegistersAre cfa (Err e) = (r : ℕ) × Reached cfa r × Recovers cfa r (Err e)

  -- the frame, or the first fault
  abbrev pub FrameIs : Result Frame UnwindError → Type 0
  FrameIs (Ok frame) =
      CfaIs c limit row.cfa (Ok frame.cfa) × (frame.return_register ≡ return_register) × AreRegisters frame.cfa frame.registers
  FrameIs (Err e) =
      CfaIs c limit row.cfa (Err e) ⊎ ((cfa : ℕ) × CfaIs c limit row.cfa (Ok cfa) × RegistersAre cfa (Err e))

  -- ---- where the device may fail, and what is answered then

  abbrev pub RegistersFail : ℕ → UnwindError → Type 0
  RegistersFail cfa e = (r : ℕ) × Reached cfa r × RegisterFails c limit cfa r (rule row r) e

  abbrev pub FrameFails : UnwindError → Type 0
  FrameFails e = CfaFails c limit row.cfa e ⊎ ((cfa : ℕ) × CfaIs c limit row.cfa (Ok cfa) × RegistersFail cfa e)

-- a failure of the device
abbrev pub is_device : UnwindError → Bool
is_device (Device column) = true
is_device (Eval kinds.Device i column) = true
is_device e = false
