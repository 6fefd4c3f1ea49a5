-- What a fault of an unwinding asks for is missing.
use Rattle.dw_eval.specs.declared.error.EvalError.TheVariants as eval
use Rattle.dw_frame.proofs.Words.{ℕ, List, Result, Ok, Err, inl, inr, Expression, Rules, rule, EvalError, Context, Evaluates, WantedByValue, Policy, Column}
use Rattle.dw_frame.proofs.{Words.{Frame, UnwindError, in_column, FaultMisses, WantedOfRow, FrameIs}, ColumnErrors.{Holds, cfa_holds, register_holds}}

module _ (c : Context) (wanted : WantedByValue) (limit : ℕ) where
  evaluated : (column : Column) (e : Expression) (first : List ℕ) (answer : Result ℕ EvalError) → Evaluates e.ops c first limit answer → Holds (FaultMisses c) (in_column column answer)
  evaluated column e first (Ok v) h = tt
  evaluated column e first (Err (eval.Fault kind i)) h = wanted e.ops c first limit kind i h
  evaluated column e first (Err eval.OutOfMemory) h = tt

  frame_misses : (policy : Policy) (row : Rules) (return_register : ℕ) (answer : Result Frame UnwindError) → FrameIs c limit policy row return_register answer → Holds (FaultMisses c) answer
  frame_misses policy row return_register (Ok frame) h = tt
  frame_misses policy row return_register (Err e) (inl h) = cfa_holds (λ column. FaultMisses c) c limit evaluated (λ column a none. none) (λ column r none. none) row.cfa (Err e) h
  frame_misses policy row return_register (Err e) (inr h) =
      let r = h.2.0 in register_holds (λ column. FaultMisses c) c limit evaluated (λ column a none. none) (λ column q none. none) policy h.0 r (rule row r) (Err e) h.2.2

pub wanted_of_row : WantedByValue → WantedOfRow
wanted_of_row wanted c limit policy row return_register e h = frame_misses c wanted limit policy row return_register (Err e) h
