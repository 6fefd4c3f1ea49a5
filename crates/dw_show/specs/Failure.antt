-- Why a run has no answer: the exit status of a failure, and which failure an error of a call below becomes.
use Rattle.std.specs.Prelude.{◌≡◌, ℕ, codes}
use Rattle.clap.specs.Words.{Text}
use Rattle.dw_num.specs.declared.error.ReadError.{ReadError}
use Rattle.dw_num.specs.declared.error.ReadError.TheVariants as read_error
use Rattle.dw_eval.specs.declared.error.EvalError.{EvalError}
use Rattle.dw_eval.specs.declared.error.EvalError.TheVariants as eval_error
use Rattle.dw_dump.specs.declared.fault.DumpError.{DumpError}
use Rattle.dw_frame.specs.declared.frame.{Column.Column, UnwindError.UnwindError}
use Rattle.dw_dump.specs.declared.fault.DumpError.TheVariants as dump_error
use Rattle.dw_frame.specs.declared.frame.UnwindError.TheVariants as unwind_error
use Rattle.dw_files.specs.declared.files.LoadError.{LoadError}
use Rattle.dw_files.specs.declared.files.LoadError.TheVariants as load_error
use Rattle.dw_words.specs.declared.request.PlanError.{PlanError}
use Rattle.dw_words.specs.declared.request.PlanError.TheVariants as plan_error
use Rattle.dw_show.specs.declared.failure.Failure.{Failure}
use Rattle.dw_show.specs.declared.failure.Failure.TheVariants as failures

-- the exit status of a failure: 2 for what is wrong with a section, a dump or an expression, 3 for wrong words,
-- 4 for a file or an output that fails, 5 for want of memory
abbrev pub status_of : Failure → ℕ
status_of (failures.BadValue what) = 3
status_of (failures.Words error) = 3
status_of (failures.CannotRead path) = 4
status_of failures.CannotWrite = 4
status_of failures.OutOfMemory = 5
status_of _ = 2

-- ---- errors of the calls below

abbrev pub of_plan : PlanError → Failure
of_plan (plan_error.BadValue what) = failures.BadValue what
of_plan (plan_error.Words error) = failures.Words error
of_plan plan_error.OutOfMemory = failures.OutOfMemory

abbrev pub of_read : ReadError → Failure
of_read (read_error.Refused refusal) = failures.Refused refusal
of_read read_error.OutOfMemory = failures.OutOfMemory

abbrev pub of_dump : DumpError → Failure
of_dump (dump_error.Fault fault) = failures.Dump fault
of_dump dump_error.OutOfMemory = failures.OutOfMemory

abbrev pub of_eval : EvalError → Failure
of_eval (eval_error.Fault kind index) = failures.Evaluation kind index
of_eval eval_error.OutOfMemory = failures.OutOfMemory

-- ---- those that become a failure with a text or a column

-- what a text says is wrong in a column
abbrev pub IsWrongIn : Text → Column → Failure → Type 0
IsWrongIn what column (failures.Column text place) = (text.now ≡ what) × (place ≡ column)
IsWrongIn what column failure = ⊥

abbrev pub OfUnwind : UnwindError → Failure → Type 0
OfUnwind unwind_error.NoFde failure = failure ≡ failures.NoFde
OfUnwind (unwind_error.Eval kind index column) (failures.Value k i place) = (k ≡ kind) × (i ≡ index) × (place ≡ column)
OfUnwind (unwind_error.Eval kind index column) failure = ⊥
OfUnwind (unwind_error.Unreadable column a k) failure = IsWrongIn (codes "Unreadable") column failure
OfUnwind (unwind_error.Device column) failure = IsWrongIn (codes "Device") column failure
OfUnwind (unwind_error.NoRegister column r) failure = IsWrongIn (codes "NoRegister") column failure
OfUnwind unwind_error.OutOfMemory failure = failure ≡ failures.OutOfMemory

-- the file of a path that has no bytes
abbrev pub OfLoad : Text → LoadError → Failure → Type 0
OfLoad path load_error.CannotRead (failures.CannotRead text) = text.now ≡ path
OfLoad path load_error.CannotRead failure = ⊥
OfLoad path load_error.OutOfMemory failure = failure ≡ failures.OutOfMemory
