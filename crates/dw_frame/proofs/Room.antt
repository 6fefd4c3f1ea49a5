-- The registers of a frame in their room.
use Rattle.dw_frame.proofs.Words.{◌≡◌, ℕ, List, [], ◌∷◌, ◌++◌, length, Option, true, false, refl, sym, ap, ◌∙◌, arith, ◌==◌, eq-eqb, eqb-true, take_all, registers_in}

module _ (near : List (ℕ × Option ℕ)) where
  pub in_near : (more : List (ℕ × Option ℕ)) → length near ≡ 64 → true ≡ (length more == 0) → more ++ near ≡ registers_in near 64 more
  in_near [] full none = sym (take_all 64 near (omega (arith, full)))
  in_near (x ∷ xs) full none = absurd (omega (arith, eqb-true (length (x ∷ xs)) 0 (sym none)))

  pub in_more : (more : List (ℕ × Option ℕ)) → false ≡ (length more == 0) → more ≡ registers_in near 64 more
  in_more [] some = let both : false ≡ true = some ∙ eq-eqb 0 0 refl in absurd cc
  in_more (x ∷ xs) some = refl

  pub pushed : (more now : List (ℕ × Option ℕ)) (entry : ℕ × Option ℕ) → now ≡ registers_in near 64 more → registers_in near 64 (now ++ entry ∷ []) ≡ registers_in near 64 more ++ entry ∷ []
  pushed more [] entry is = ap (λ (l : List (ℕ × Option ℕ)). l ++ entry ∷ []) is
  pushed more (x ∷ xs) entry is = ap (λ (l : List (ℕ × Option ℕ)). l ++ entry ∷ []) is
