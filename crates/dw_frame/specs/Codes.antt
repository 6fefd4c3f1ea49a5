-- The numbers of faults.
use Rattle.std.specs.Prelude.{ℕ, Option, Some, None}
use Rattle.dw_frame.specs.declared.frame.{UnwindError.UnwindError, UnwindError.TheVariants.{NoFde, Eval, Unreadable, Device, NoRegister, OutOfMemory}}

-- the number of each fault of a frame; want of memory is no fault
abbrev pub frame_fault : UnwindError → Option ℕ
frame_fault NoFde = Some 1
frame_fault (Eval kind index column) = Some 2
frame_fault (Unreadable column address len) = Some 3
frame_fault (Device column) = Some 4
frame_fault (NoRegister column register) = Some 5
frame_fault OutOfMemory = None
