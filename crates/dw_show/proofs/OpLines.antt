-- The operations of an expression, one behind another.
use Rattle.dw_show.proofs.Words.{◌≡◌, ℕ, List, [], ◌∷◌, ◌++◌, codes, map, suc, decimal, refl, ap, ◌∙◌, Op, Implicit, op_text, next_text, line_end, lines, numbered}
use Rattle.dw_op.specs.Expression.{bare}

-- wherever its bytes lie
pub text_bare : (op : Op) → op_text (bare op) ≡ op_text op
text_bare (Implicit bytes) = refl
text_bare op = refl

-- operations that are left, with what stands before the first of them
abbrev pub left_text : List ℕ → List Op → List ℕ
left_text between [] = []
left_text between (op ∷ ops) = between ++ op_text op ++ lines next_text ops

-- a list of them, wherever their bytes lie
pub numbered_bare : (index : ℕ) (ops : List Op) → numbered index (map bare ops) ≡ numbered index ops
numbered_bare index [] = refl
numbered_bare index (op ∷ ops) =
    ap (λ (t : List ℕ). decimal index ++ codes " " ++ t ++ line_end ++ numbered (suc index) (map bare ops)) (text_bare op)
    ∙ ap (λ (t : List ℕ). decimal index ++ codes " " ++ op_text op ++ line_end ++ t) (numbered_bare (suc index) ops)
