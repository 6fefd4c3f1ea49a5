-- The row that a look-up finds for a frame.
use Rattle.std.specs.Prelude.{◌≡◌, ◌⊎◌, ℕ, List, Result, Ok, Err}
use Rattle.dw_num.specs.declared.target.Target.{Target}
use Rattle.dw_row.specs.Rows.{Rules}
use Rattle.dw_unwind.specs.Unwound.{IsCovered, IsUncovered}
use Rattle.dw_unwind.specs.declared.by_index.{UnwindAtError.UnwindAtError, UnwindAtError.TheVariants.Unwind}
use Rattle.dw_frame.specs.declared.frame.UnwindError.TheVariants.{NoFde, OutOfMemory}

-- By the index of an accepted section: the return address register of the FDE that covers an address, with the rules there;
-- or that none does, or want of memory.
abbrev pub FindsRow : Target → List ℕ → ℕ → Rules → Result ℕ UnwindAtError → Type 0
FindsRow target s a row (Ok register) = IsCovered target s a register row
FindsRow target s a row (Err e) = (e ≡ Unwind OutOfMemory) ⊎ ((e ≡ Unwind NoFde) × IsUncovered target s a)
