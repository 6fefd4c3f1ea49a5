-- The row at an FDE's begin, by the answers of the code.
use Rattle.dw_cfa.proofs.Words.{◌≡◌, Bool, List, [], ◌∷◌, refl, ap, if◌then◌else◌, Instr, Nop, Advance, DefCfaOffset, CfaOffset, Other, answers_before, moves_first, first_row, answers_move, answers_row}

answers_moved : (instrs : List Instr) → answers_move (answers_before instrs []) ≡ moves_first instrs
answers_moved [] = refl
answers_moved (Nop ∷ instrs) = answers_moved instrs
answers_moved (Advance delta ∷ instrs) = refl
answers_moved (i ∷ instrs) = refl

pub answers_first : (instrs : List Instr) → answers_row (answers_before instrs []) ≡ first_row instrs
answers_first [] = refl
answers_first (Nop ∷ instrs) = answers_first instrs
answers_first (Advance delta ∷ instrs) = refl
answers_first (DefCfaOffset n ∷ instrs) = ap (λ (b : Bool). if b then CfaOffset n else Other) (answers_moved instrs)
answers_first (i ∷ instrs) = refl
