-- Registers that ascend.
use Rattle.dw_canon.proofs.Words.{◌≡◌, ℕ, suc, ◌≤◌, List, [], ◌∷◌, map, inl, inr, arith, nat_eq, nat_lt, cases_Bool, cases_lt, eqb-false, ltb-true, ltb-false, RegRule, AreSpecified, with_register, with_registers}

abbrev pub Rise : ℕ → List ℕ → Type 0
Rise low [] = Unit {0}
Rise low (r ∷ rs) = (low ≤ r) × Rise (suc r) rs

with_one_rise : (low r : ℕ) (rs : List ℕ) → low ≤ r → Rise low rs → Rise low (with_register r rs)
with_one_rise low r [] le h = (le, tt)
with_one_rise low r (x ∷ rs) le h = elim (cases_Bool (nat_lt r x)) [
  | inl less ↦ let lt = ltb-true r x less in rw less (le, (omega arith, h.1))
  | inr more ↦ elim (cases_Bool (nat_eq r x)) [
    | inl same ↦ rw (more, same) h
    | inr other ↦
        let ge = ltb-false r x more in
        let ne = eqb-false r x other in
        rw (more, other) (h.0, with_one_rise (suc x) r rs (above ge ne) h.1)
  ]
]
  where
    above : x ≤ r → (r ≡ x → ⊥) → suc x ≤ r
    above ge ne = elim (cases_lt x r) [ inl lt ↦ omega arith | inr more ↦ absurd (ne (omega arith)) ]

pub with_all_rise : (rs qs : List ℕ) → Rise 0 qs → Rise 0 (with_registers rs qs)
with_all_rise [] qs h = h
with_all_rise (r ∷ rs) qs h = with_all_rise rs (with_register r qs) (with_one_rise 0 r qs (omega arith) h)

pub keys_rise : (low : ℕ) (xs : List (ℕ × RegRule)) → AreSpecified low xs → Rise low (map (λ (entry : ℕ × RegRule). entry.0) xs)
keys_rise low [] h = tt
keys_rise low (x ∷ xs) h = (h.0, keys_rise (suc x.0) xs h.2)
