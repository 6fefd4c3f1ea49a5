-- What the parts of an unwinding answer, over a memory whose device may fail.
use Rattle.std.specs.{Prelude.{◌≡◌, ◌<◌, ◌≤◌, ℕ, Bool, suc, List, [], ◌∷◌, Option, Result, Ok, Err}, List.AllByRecursion}
use Rattle.dw_op.specs.Expression.{Expression}
use Rattle.dw_eval.specs.{Context.{Context, context}, Evaluation.first_stack, Registers.held, declared.policy.Policy.Policy}
use Rattle.dw_eval.specs.declared.error.Kind.TheVariants as kinds
use Rattle.dw_row.specs.{Rows.{Rules, AreSpecified, rule, rule_in}, declared.rule.{CfaRule.CfaRule, RegRule.RegRule}}
use Rattle.dw_index.specs.Among.{IsAmong}
use Rattle.dw_frame.specs.Columns.{CfaFails, CfaIs, RegisterFails, RegisterIs, SavedFails, ValueFails, ValueIs, saved_at}
use Rattle.dw_frame.specs.Frames.{FrameFails, FrameIs, IsListed, IsRegisterEntry, RegistersAre, RegistersFail, is_listed}
use Rattle.dw_frame.specs.declared.{frame.{Column.Column, Frame.Frame}, machine.Machine.Machine}
use Rattle.dw_frame.specs.declared.frame.{UnwindError.UnwindError, UnwindError.TheVariants.{Eval, Device, OutOfMemory}}

-- An answer between two counts of the device's failures. Where the count stays, it is want of memory or what P says; where the
-- count grew, it is a failure of the device, as Fails says; nothing else is a failure of the device.
abbrev pub Over : {A : Type 0} → (Result A UnwindError → Type 0) → (UnwindError → Type 0) → ℕ → Result A UnwindError → ℕ → Type 0
Over P Fails before (Ok v) after = P (Ok v) × (after ≡ before)
Over P Fails before (Err OutOfMemory) after = after ≡ before
Over P Fails before (Err (Device column)) after = Fails (Device column) × (before < after)
Over P Fails before (Err (Eval kinds.Device i column)) after = Fails (Eval kinds.Device i column) × (before < after)
Over P Fails before (Err e) after = P (Err e) × (after ≡ before)

-- registers from `low` on, ascending, one after another
abbrev pub Rise : ℕ → List (ℕ × Option ℕ) → Type 0
Rise low [] = Unit {0}
Rise low (entry ∷ rest) = (low ≤ entry.0) × Rise (suc entry.0) rest

-- what is left of a row's registers from a number on
pub record IsLeft (row : Rules) (from : ℕ) (entries : List (ℕ × RegRule)) : Type 0 where
  pub ascending : AreSpecified from entries
  pub same : (r : ℕ) → from ≤ r → rule_in entries r ≡ rule row r

-- on a machine that stopped, with a row and its return address register
module _ (c : Context) (limit : ℕ) (policy : Policy) (row : Rules) (return_register : ℕ) where
  -- these are the listed registers below n
  pub record SoFar (cfa n : ℕ) (entries : List (ℕ × Option ℕ)) : Type 0 where
    pub rise : Rise 0 entries
    pub below : AllByRecursion (λ entry. entry.0 < n) entries
    pub each : AllByRecursion (IsRegisterEntry c limit policy row return_register cfa) entries
    pub all : (r : ℕ) → r < n → IsListed c limit policy row return_register r → (v : Option ℕ) × IsAmong (r, v) entries

  -- register n is added where it is listed, or has the first fault
  abbrev pub Adds : ℕ → ℕ → List (ℕ × Option ℕ) → Result Unit UnwindError → Type 0
  Adds cfa n entries (Ok u) = SoFar cfa (suc n) entries
  Adds cfa n entries (Err e) = RegistersAre c limit policy row return_register cfa (Err e)

-- a machine lists a register
abbrev pub lists : Machine → ℕ → Bool
lists m r = is_listed (held m.env.registers.now) m.row.now m.return_register r

-- ---- what the calls of a machine answer, over the bytes of a memory, between two counts of its device's failures

module _ (m : Machine) (byte : ℕ → Option ℕ) where
  abbrev pub world : Context
  world = context m.env byte

  -- the listed registers below n
  abbrev pub ListedBelow : ℕ → ℕ → List (ℕ × Option ℕ) → Type 0
  ListedBelow cfa n entries = SoFar world m.steps m.default m.row.now m.return_register cfa n entries

  -- the address that memory holds at an address
  abbrev pub SavedOver : Column → ℕ → ℕ → Result ℕ UnwindError → ℕ → Type 0
  SavedOver column a = Over (λ answer. answer ≡ saved_at world m.steps column a) (SavedFails world m.steps column a)

  -- the value of an expression, whose stack holds a value at the start or is empty
  abbrev pub ValueOver : Column → Expression → Option ℕ → ℕ → Result ℕ UnwindError → ℕ → Type 0
  ValueOver column e start =
      let first = first_stack m.env.target.size start in
      Over (ValueIs world m.steps column e first) (ValueFails world m.steps column first e)

  -- the CFA by its rule
  abbrev pub CfaOver : CfaRule → ℕ → Result ℕ UnwindError → ℕ → Type 0
  CfaOver own = Over (CfaIs world m.steps own) (CfaFails world m.steps own)

  -- a register by its rule
  abbrev pub RegisterOver : ℕ → ℕ → RegRule → ℕ → Result (Option ℕ) UnwindError → ℕ → Type 0
  RegisterOver cfa r own = Over (RegisterIs world m.steps m.default cfa r own) (RegisterFails world m.steps cfa r own)

  -- the listed registers up to n are in the room
  abbrev pub AddsOver : ℕ → ℕ → List (ℕ × Option ℕ) → ℕ → Result Unit UnwindError → ℕ → Type 0
  AddsOver cfa n entries = Over (Adds world m.steps m.default m.row.now m.return_register cfa n entries)
      (RegistersFail world m.steps m.default m.row.now m.return_register cfa)

  -- the listed registers
  abbrev pub RegistersOver : ℕ → ℕ → Result (List (ℕ × Option ℕ)) UnwindError → ℕ → Type 0
  RegistersOver cfa = Over (RegistersAre world m.steps m.default m.row.now m.return_register cfa)
      (RegistersFail world m.steps m.default m.row.now m.return_register cfa)

  -- the frame
  abbrev pub FrameOver : ℕ → Result Frame UnwindError → ℕ → Type 0
  FrameOver = Over (FrameIs world m.steps m.default m.row.now m.return_register)
      (FrameFails world m.steps m.default m.row.now m.return_register)
