-- A fault of an unwinding names a column of the frame.
use Rattle.dw_unwind.proofs.Words.{◌≡◌, Some, None, Result, Ok, Err, sym, ◌∙◌, ap, inl, inr, Frame, UnwindError, column_of, FaultsInRow, FaultsInFrame}

pub faults_in_frame : FaultsInRow → FaultsInFrame
faults_in_frame in_row target s pc c policy limit e column (inl (inl h)) named = absurd (let is : Some column ≡ None = sym named ∙ ap (λ (r : Result Frame UnwindError). elim r [ Ok f ↦ None | Err d ↦ column_of d ]) h.0 in cc)
faults_in_frame in_row target s pc c policy limit e column (inl (inr h)) named = (h.0, h.1, h.2, in_row c limit policy h.1 h.0 e column (inl h.3) named)
faults_in_frame in_row target s pc c policy limit e column (inr h) named = (h.0, h.1, h.2, in_row c limit policy h.1 h.0 e column (inr h.3) named)
