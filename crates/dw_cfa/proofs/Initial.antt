-- The row that a CIE's program leaves.
use Rattle.dw_cfa.proofs.Words.{◌≡◌, ℕ, List, [], ◌∷◌, length, Option, Some, None, Ok, Err, refl, sym, ap, ◌∙◌, subst, Code, Instr, Placed, Refusal, Rules, SetLoc, Advance, Restore, RememberState, RestoreState, onto, blank}
use Rattle.dw_cfa.proofs.{Words.{begun, written, after, cie_fault, fde_fault, at_end, refused_at, cie_run}, Lent.Forward.{Follows, after_follows}, Lent.RowsAt.instrs_of, Stops.{AllRun, all_run, ends, refusal_of, refusal_or}}

-- an instruction that a CIE may hold has the same effect in an FDE
pub cie_step : (i : Instr) (row : Rules) → cie_fault i row ≡ None → (fde_fault 0 i (begun row 0) ≡ None) × (after blank i (begun row 0) ≡ begun (written i row) 0)
cie_step (SetLoc a) row e = absurd cc
cie_step (Advance d) row e = absurd cc
cie_step (Restore r) row e = absurd cc
cie_step RememberState row e = absurd cc
cie_step RestoreState row e = absurd cc
cie_step i row e = (e, refl)

pub written_follows : (i : Instr) (earlier : List Instr) (row : Rules) → Follows blank 0 earlier (begun row 0) → cie_fault i row ≡ None → Follows blank 0 (i ∷ earlier) (begun (written i row) 0)
written_follows i earlier row h e =
    let step = cie_step i row e in subst (Follows blank 0 (i ∷ earlier)) step.1 (after_follows blank 0 i earlier (begun row 0) 0 h step.0)

pub cie_follows : (items : List Placed) (earlier : List Instr) (row : Rules) → Follows blank 0 earlier (begun row 0) → AllRun cie_fault written items row
    → Follows blank 0 (onto earlier (instrs_of items) (length (instrs_of items))) (begun (ends written items row) 0)
cie_follows [] earlier row h run = h
cie_follows (item ∷ items) earlier row h run = cie_follows items (item.instr ∷ earlier) (written item.instr row) (written_follows item.instr earlier row h run.0) run.1

-- ---- what it answers

end_behind : {A : Type 0} (at : ℕ) (code : Option Code) (rest : Option Refusal) (x : A) → refused_at at code (at_end rest x) ≡ at_end (refusal_or at code rest) x
end_behind at None rest x = refl
end_behind at (Some code) rest x = refl

pub cie_answer : (items : List Placed) (fault : Option Refusal) (row : Rules) → cie_run items fault row ≡ at_end (refusal_of cie_fault written items fault row) (ends written items row)
unfolding cie_run
cie_answer [] fault row = refl
cie_answer (item ∷ items) fault row =
    ap (refused_at item.at (cie_fault item.instr row)) (cie_answer items fault (written item.instr row))
    ∙ end_behind item.at (cie_fault item.instr row) (refusal_of cie_fault written items fault (written item.instr row)) (ends written items (written item.instr row))

end_none : {A : Type 0} (fault : Option Refusal) (x y : A) → at_end fault x ≡ Ok y → (fault ≡ None) × (x ≡ y)
end_none None x y e = (refl, cc)
end_none (Some r) x y e = absurd cc

end_some : {A : Type 0} (fault : Option Refusal) (x : A) (r : Refusal) → at_end fault x ≡ Err r → fault ≡ Some r
end_some None x r e = absurd cc
end_some (Some q) x r e = let same : q ≡ r = cc in ap Some same

module _ (items : List Placed) (fault : Option Refusal) (row : Rules) where
  pub cie_refusal : (r : Refusal) → cie_run items fault row ≡ Err r → refusal_of cie_fault written items fault row ≡ Some r
  cie_refusal r e = end_some (refusal_of cie_fault written items fault row) (ends written items row) r (sym (cie_answer items fault row) ∙ e)

  pub cie_told : (o : Option Refusal) → refusal_of cie_fault written items fault row ≡ o → cie_run items fault row ≡ at_end o (ends written items row)
  cie_told o e = cie_answer items fault row ∙ ap (λ (p : Option Refusal). at_end p (ends written items row)) e

  pub cie_ran : (initial : Rules) → cie_run items fault row ≡ Ok initial → AllRun cie_fault written items row × (fault ≡ None) × (ends written items row ≡ initial)
  cie_ran initial e =
      let end = end_none (refusal_of cie_fault written items fault row) (ends written items row) initial (sym (cie_answer items fault row) ∙ e) in
      let run = all_run cie_fault written items fault row end.0 in
      (run.0, run.1, end.1)
