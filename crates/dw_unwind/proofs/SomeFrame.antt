-- A section gives each machine that stopped a frame or a fault. What holds below is taken by the public laws.
use Rattle.dw_unwind.proofs.Words.{◌⊎◌, ℕ, List, [], ◌∷◌, Result, Err, refl, arith, inl, inr, cases_lt, Fde, IsAmong, CfaIsSet, FdesExist, RulesExist, RulesFit, Covers, NoneCovers, Frame, UnwindError, NoFde, Unwound, OneFrame, SomeFrame, SomeOfRow, stopped}

-- ---- the FDE

covered_or : (a : ℕ) (fs : List Fde) → ((f : Fde) × IsAmong f fs × Covers a f) ⊎ NoneCovers a fs
covered_or a [] = inr tt
covered_or a (f ∷ fs) = elim (cases_lt a f.begin) [
  | inl before ↦ later (λ covers. omega (arith, before, covers.0)) (covered_or a fs)
  | inr from ↦ elim (cases_lt a f.end) [
    | inl below ↦ inl (f, inl refl, (from, below))
    | inr past ↦ later (λ covers. omega (arith, past, covers.1)) (covered_or a fs)
  ]
]
  where
    later : (Covers a f → ⊥) → ((g : Fde) × IsAmong g fs × Covers a g) ⊎ NoneCovers a fs → ((g : Fde) × IsAmong g (f ∷ fs) × Covers a g) ⊎ NoneCovers a (f ∷ fs)
    later none (inl found) = inl (found.0, inr found.1, found.2)
    later none (inr others) = inr (none, others)

module _ (some_of_row : SomeOfRow) (fdes : FdesExist) (ruled : RulesExist) (fit : RulesFit) (set : CfaIsSet) (one_frame : OneFrame) where
  pub some_frame : SomeFrame
  some_frame target s pc registers byte policy limit bytes accepted =
      let c = stopped target registers byte in
      let fs = fdes target s bytes accepted in
      let answer : (frame : Result Frame UnwindError) × Unwound target s pc c policy limit frame = elim (covered_or pc fs.0) [
        | inr none ↦ (Err NoFde, inl (refl, (fs.0, fs.1, none)))
        | inl found ↦
            let f = found.0 in
            let row = ruled target s bytes accepted fs.0 f pc fs.1 found.1 found.2 in
            let fits = fit target s pc row.0 bytes accepted row.1 in
            let frame = some_of_row target registers byte limit policy row.0 f.return_register fits (set target s pc row.0 bytes accepted row.1) in
            (frame.0, inr (f.return_register, row.0, record { fdes = fs.0; are = fs.1; fde = f; among = found.1; covers = found.2; returns = refl; rules = row.1 }, frame.1))
      ] in
      record { value = answer.0; holds = answer.1; only = λ other is. one_frame target s pc c policy limit other answer.0 bytes accepted is answer.1 }
