-- Ascending lists of registers with their rules: what setting a register leaves.
use Rattle.dw_row.proofs.Words.{◌≡◌, ℕ, suc, ◌<◌, ◌≤◌, Bool, true, false, cond, List, [], ◌∷◌, refl, arith, inl, inr, nat_eq, nat_lt, IsTrue, nat_tests}
use Rattle.dw_row.proofs.Words.{cases_Bool, ltb-true, ltb-false, eqb-true, eqb-false, RegRule, Unspecified, is_specified, AreSpecified, rule_in, listed, put}

abbrev pub Entry : Type 0
Entry = ℕ × RegRule

pub listed_is : (r : ℕ) (rule : RegRule) (rest : List Entry) → is_specified rule ≡ true → listed r rule rest ≡ (r, rule) ∷ rest
listed_is r Unspecified rest e = absurd cc
listed_is r rule rest e = refl

-- a register below all of the list has no rule
pub unlisted : (r low : ℕ) (xs : List Entry) → AreSpecified low xs → r < low → rule_in xs r ≡ Unspecified
unlisted r low [] up lt = refl
unlisted r low (x ∷ xs) up lt = let first : low ≤ x.0 = up.0 in grind (arith, nat_tests, unlisted r (suc x.0) xs up.2)

pub lower : (low low' : ℕ) (xs : List Entry) → low' ≤ low → AreSpecified low xs → AreSpecified low' xs
lower low low' [] le up = tt
lower low low' (x ∷ xs) le up = let first : low ≤ x.0 = up.0 in (omega arith, up.1, up.2)

pub listed_keeps : (r : ℕ) (rule : RegRule) (low : ℕ) (xs : List Entry) → AreSpecified (suc r) xs → low ≤ r → AreSpecified low (listed r rule xs)
listed_keeps r Unspecified low xs up le = lower (suc r) low xs (omega arith) up
listed_keeps r rule low xs up le = (le, refl, up)

behind_keeps : (r : ℕ) (x : Entry) (xs : List Entry) (b : Bool) → nat_eq x.0 r ≡ b → r ≤ x.0 → IsTrue (is_specified x.1) → AreSpecified (suc x.0) xs → AreSpecified (suc r) (cond b xs (x ∷ xs))
behind_keeps r x xs true e le given up = let same = eqb-true x.0 r e in lower (suc x.0) (suc r) xs (omega arith) up
behind_keeps r x xs false e le given up = let other = eqb-false x.0 r e in (omega arith, given, up)

-- setting keeps the list ascending
pub put_keeps : (r : ℕ) (rule : RegRule) (low : ℕ) (xs : List Entry) → AreSpecified low xs → low ≤ r → AreSpecified low (put r rule xs)
put_keeps r rule low [] up le = listed_keeps r rule low [] tt le
put_keeps r rule low (x ∷ xs) up le = elim (cases_Bool (nat_lt x.0 r)) [
  | inl e ↦ let lt = ltb-true x.0 r e in rw e (up.0, up.1, put_keeps r rule (suc x.0) xs up.2 (omega arith))
  | inr e ↦ let ge = ltb-false x.0 r e in rw e (listed_keeps r rule low _ (behind_keeps r x xs (nat_eq x.0 r) refl ge up.1 up.2) le)
]

-- a register below all of the list keeps its rule in front of it
pub listed_rule : (r : ℕ) (rule : RegRule) (q : ℕ) (xs : List Entry) → AreSpecified (suc r) xs
    → rule_in (listed r rule xs) q ≡ cond (nat_eq r q) rule (rule_in xs q)
listed_rule r Unspecified q xs up = grind (arith, nat_tests, unlisted q (suc r) xs up)
listed_rule r rule q xs up = refl

-- the register has the rule, and every other one keeps its own
pub put_rule : (r : ℕ) (rule : RegRule) (low : ℕ) (xs : List Entry) (q : ℕ) → AreSpecified low xs
    → rule_in (put r rule xs) q ≡ cond (nat_eq r q) rule (rule_in xs q)
put_rule r rule low [] q up = listed_rule r rule q [] tt
put_rule r rule low (x ∷ xs) q up =
    let here = λ (at : x.0 ≡ r). listed_rule r rule q xs (lower (suc x.0) (suc r) xs (omega arith) up.2) in
    let above = λ (lt : r < x.0). listed_rule r rule q (x ∷ xs) (lt, up.1, up.2) in
    grind (arith, nat_tests, put_rule r rule (suc x.0) xs q up.2, here, above)

pub other_rule : (r q : ℕ) (rule : RegRule) (xs : List Entry) → AreSpecified 0 xs → (q ≡ r → ⊥) → rule_in (put r rule xs) q ≡ rule_in xs q
other_rule r q rule xs up not = grind (arith, nat_tests, put_rule r rule 0 xs q up)

pub same_rule_set : (r q : ℕ) (rule : RegRule) (xs : List Entry) → AreSpecified 0 xs → q ≡ r → rule_in (put r rule xs) q ≡ rule
same_rule_set r q rule xs up same = grind (arith, nat_tests, put_rule r rule 0 xs q up)
