-- What holds of the frames of a row, for the layers above.
use Rattle.std.specs.Prelude.{◌≡◌, ◌⊎◌, ℕ, List, Option, Some, None, Result, Err, ⊤, IsTrue}
use Rattle.dw_num.specs.declared.target.Target.{Target}
use Rattle.dw_eval.specs.{Context.{Context, read_at}, Wanted.IsMissing, declared.policy.Policy.Policy}
use Rattle.dw_row.specs.{Rows.Rules, declared.rule.CfaRule.TheVariants.Unset}
use Rattle.dw_cfa.specs.Fits.{RowFits}
use Rattle.dw_frame.specs.Frames.{FrameFails, FrameIs, is_listed, stopped}
use Rattle.dw_frame.specs.declared.frame.{Column.Column, Column.TheVariants.{Cfa, Register}, Frame.Frame, UnwindError.UnwindError}
use Rattle.dw_frame.specs.declared.frame.UnwindError.TheVariants.{Eval, Unreadable, Device, NoRegister}

-- the column that a fault names
abbrev pub column_of : UnwindError → Option Column
column_of (Eval kind i column) = Some column
column_of (Unreadable column a k) = Some column
column_of (Device column) = Some column
column_of (NoRegister column r) = Some column
column_of other = None

-- the CFA, or a register that the frame lists
abbrev pub IsInFrame : (ℕ → Option ℕ) → Rules → ℕ → Column → Type 0
IsInFrame held row return_register Cfa = ⊤
IsInFrame held row return_register (Register r) = IsTrue (is_listed held row return_register r)

-- what a fault asks for is missing: a register's value, or bytes of memory
abbrev pub FaultMisses : Context → UnwindError → Type 0
FaultMisses c (Eval kind i column) = IsMissing c kind
FaultMisses c (Unreadable column a k) = read_at c a k ≡ None
FaultMisses c (NoRegister column r) = c.register r ≡ None
FaultMisses c other = ⊤

-- a row gives at most one frame or fault
abbrev pub OneOfRow : Type 0
OneOfRow = (c : Context) (limit : ℕ) (policy : Policy) (row : Rules) (return_register : ℕ) (answer other : Result Frame UnwindError)
    → FrameIs c limit policy row return_register answer → FrameIs c limit policy row return_register other → answer ≡ other

-- and one that fits, in which the CFA has a rule, gives a machine that stopped one
abbrev pub SomeOfRow : Type 0
SomeOfRow = (target : Target) (registers : List (Option ℕ)) (byte : ℕ → Option ℕ) (limit : ℕ) (policy : Policy) (row : Rules) (return_register : ℕ)
    → RowFits target row → (row.cfa ≡ Unset → ⊥) → (answer : Result Frame UnwindError) × FrameIs (stopped target registers byte) limit policy row return_register answer

-- a fault's column, if it names one, is the CFA or a register that the frame lists
abbrev pub FaultsInRow : Type 0
FaultsInRow = (c : Context) (limit : ℕ) (policy : Policy) (row : Rules) (return_register : ℕ) (e : UnwindError) (column : Column)
    → FrameIs c limit policy row return_register (Err e) ⊎ FrameFails c limit policy row return_register e → column_of e ≡ Some column → IsInFrame c.register row return_register column

-- what the first fault asks for is missing
abbrev pub WantedOfRow : Type 0
WantedOfRow = (c : Context) (limit : ℕ) (policy : Policy) (row : Rules) (return_register : ℕ) (e : UnwindError)
    → FrameIs c limit policy row return_register (Err e) → FaultMisses c e
