-- What a fault of an unwinding asks for is missing.
use Rattle.dw_section.specs.Ranges.{Ranged}
use Rattle.dw_unwind.specs.declared.by_index.UnwindAtError.TheVariants.{Unwind}
use Rattle.dw_unwind.proofs.Words.{ℕ, List, Result, Ok, Err, sym, subst, inl, inr, Target, Rules, Context, Policy, UnwindAtError, Frame, UnwindError, NoFde, OutOfMemory, FaultMisses, WantedIsMissing, WantedOfRow, FrameIs, LacksRow, by_index}

module _ (c : Context) where
  abbrev Misses : Result Frame UnwindError → Type 0
  Misses (Ok frame) = Unit {0}
  Misses (Err e) = FaultMisses c e

  frame_misses : (of_row : WantedOfRow) (limit : ℕ) (policy : Policy) (row : Rules) (return_register : ℕ) (answer : Result Frame UnwindError) → FrameIs c limit policy row return_register answer → Misses answer
  frame_misses of_row limit policy row return_register (Ok frame) h = tt
  frame_misses of_row limit policy row return_register (Err e) h = of_row c limit policy row return_register e h

  -- by an index: an answer of `unwind`, or why there is no row
  abbrev ErrorMisses : UnwindAtError → Type 0
  ErrorMisses (Unwind e) = FaultMisses c e
  ErrorMisses other = Unit {0}

  abbrev AnswerMisses : Result Frame UnwindAtError → Type 0
  AnswerMisses (Ok frame) = Unit {0}
  AnswerMisses (Err e) = ErrorMisses e

  told_misses : (r : Result Frame UnwindError) → Misses r → AnswerMisses (by_index r)
  told_misses (Ok frame) h = tt
  told_misses (Err e) h = h

  lacks_misses : (target : Target) (s : List ℕ) (index : List Ranged) (pc : ℕ) (e : UnwindAtError) → LacksRow target s index pc e → ErrorMisses e
  lacks_misses target s index pc (Unwind NoFde) h = tt
  lacks_misses target s index pc (Unwind OutOfMemory) h = tt
  lacks_misses target s index pc (Unwind e) h = absurd h
  lacks_misses target s index pc e h = tt

pub wanted_is_missing : WantedOfRow → WantedIsMissing
wanted_is_missing of_row = record {
  row = of_row;
  frame = λ target s pc c policy limit e h. elim h [
    | inl none ↦ subst (Misses c) (sym none.0) tt
    | inr some ↦ of_row c limit policy some.1 some.0 e some.3
  ];
  by_index = λ target s index pc c policy limit e h. elim h [
    | inl lacks ↦ subst (AnswerMisses c) (sym lacks.1) (lacks_misses c target s index pc lacks.0 lacks.2)
    | inr some ↦ subst (AnswerMisses c) (sym some.3.1) (told_misses c some.3.0 (frame_misses c of_row limit policy some.1 some.0 some.3.0 some.3.2))
  ];
}
