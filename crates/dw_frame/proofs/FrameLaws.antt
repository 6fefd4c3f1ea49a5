-- The registers of a frame, one after another.
use Rattle.std.proofs.Common.{rules}
use Rattle.dw_frame.proofs.Words.{◌≡◌, ℕ, zero, suc, ◌<◌, ◌≤◌, true, false, List, [], ◌∷◌, ◌++◌, length, get_or, Option, None, Ok, refl, sym, subst, ◌∙◌, arith, inl, inr, AllByRecursion, AllPairs, ◌||◌, Bool, IsTrue, is_some, cases_lt}
use Rattle.dw_frame.proofs.Words.{ne_eqb, RegRule, Rules, AreSpecified, is_specified, rule, rule_in, Context, IsAmong, Policy, is_listed, IsListed, Recovers, AreRegisters, Reached, Rise, SoFar, IsLeft}
use Rattle.dw_row.specs.declared.rule.RegRule.TheVariants.{Unspecified}
use Rattle.dw_frame.proofs.Elements.{all_push, all_more, all_among}

or-true : (b : Bool) → (b || true) ≡ true
or-true true = refl
or-true false = refl

rise_push : (low n : ℕ) (entries : List (ℕ × Option ℕ)) (v : Option ℕ) → Rise low entries → AllByRecursion (λ (entry : ℕ × Option ℕ). entry.0 < n) entries → low ≤ n → Rise low (entries ++ (n, v) ∷ [])
rise_push low n [] v h b le = (le, tt)
rise_push low n (entry ∷ rest) v h b le = (h.0, rise_push (suc entry.0) n rest v h.1 b.1 (omega (arith, b.0)))

rise_from : (low : ℕ) (entries : List (ℕ × Option ℕ)) → Rise low entries → (i : ℕ) (d : ℕ × Option ℕ) → i < length entries → low ≤ (get_or entries i d).0
rise_from low [] up i d lt = absurd (omega arith)
rise_from low (entry ∷ rest) up zero d lt = up.0
rise_from low (entry ∷ rest) up (suc i) d lt = let later = rise_from (suc entry.0) rest up.1 i d (omega arith) in omega (arith, later)

rise_pairs : (low : ℕ) (entries : List (ℕ × Option ℕ)) → Rise low entries → AllPairs (λ (x y : ℕ × Option ℕ). x.0 < y.0) entries
rise_pairs low [] up i j d lt within = absurd (omega arith)
rise_pairs low (entry ∷ rest) up i zero d lt within = absurd (omega arith)
rise_pairs low (entry ∷ rest) up zero (suc j) d lt within = rise_from (suc entry.0) rest up.1 j d (omega arith)
rise_pairs low (entry ∷ rest) up (suc i) (suc j) d lt within = rise_pairs (suc entry.0) rest up.1 i j d (omega arith) (omega arith)

pub pairs_rise : (low : ℕ) (entries : List (ℕ × Option ℕ)) → ((i : ℕ) (d : ℕ × Option ℕ) → i < length entries → low ≤ (get_or entries i d).0)
    → AllPairs (λ (x y : ℕ × Option ℕ). x.0 < y.0) entries → Rise low entries
pairs_rise low [] from up = tt
pairs_rise low (entry ∷ rest) from up = (
  from 0 entry (omega arith),
  pairs_rise (suc entry.0) rest (λ i d lt. up 0 (suc i) d (omega arith) (omega arith)) (λ i j d lt within. up (suc i) (suc j) d (omega arith) (omega arith)),
)

among_front : {X : Type 0} (x : X) (xs : List X) (last : X) → IsAmong x xs → IsAmong x (xs ++ last ∷ [])
among_front x [] last i = absurd i
among_front x (y ∷ xs) last (inl is) = inl is
among_front x (y ∷ xs) last (inr i) = inr (among_front x xs last i)

among_last : {X : Type 0} (xs : List X) (x : X) → IsAmong x (xs ++ x ∷ [])
among_last [] x = inl refl
among_last (y ∷ xs) x = inr (among_last xs x)

module _ (c : Context) (limit : ℕ) (policy : Policy) (row : Rules) (register cfa : ℕ) where
  abbrev So : ℕ → List (ℕ × Option ℕ) → Type 0
  So n entries = SoFar c limit policy row register cfa n entries

  abbrev Listed : ℕ → Type 0
  Listed r = IsListed c limit policy row register r

  abbrev Value : ℕ → Option ℕ → Type 0
  Value r v = Listed r × Recovers c limit policy row register cfa r (Ok v)

  pub specified_listed : (r : ℕ) (own : RegRule) → own ≡ rule row r → IsTrue (is_specified own) → Listed r
  specified_listed r own same specified = rw (sym same, specified) (or-true (is_some (c.register r)))

  pub so_added : (n : ℕ) (entries : List (ℕ × Option ℕ)) (v : Option ℕ) → So n entries → Listed n → Recovers c limit policy row register cfa n (Ok v) → So (suc n) (entries ++ (n, v) ∷ [])
  so_added n entries v so listed is = record {
    rise = rise_push 0 n entries v so.rise so.below (omega arith);
    below = all_push (λ (entry : ℕ × Option ℕ). entry.0 < suc n) entries (n, v) (all_more (λ (entry : ℕ × Option ℕ). entry.0 < n) (λ entry. entry.0 < suc n) entries (λ x lt. omega arith) so.below) (omega arith);
    each = all_push (λ (entry : ℕ × Option ℕ). Value entry.0 entry.1) entries (n, v) so.each (listed, is);
    all = λ r lt listed. elim (cases_lt r n) [
      | inl less ↦ let found = so.all r less listed in (found.0, among_front _ entries _ found.1)
      | inr more ↦ let same : n ≡ r = omega arith in (v, subst (λ (q : ℕ). IsAmong (q, v) (entries ++ (n, v) ∷ [])) same (among_last entries (n, v)))
    ];
  }

  pub so_passed : (n : ℕ) (entries : List (ℕ × Option ℕ)) → So n entries → is_listed c.register row register n ≡ false → So (suc n) entries
  so_passed n entries so not = search (rules, all_more)

  pub so_reached : (n : ℕ) (entries : List (ℕ × Option ℕ)) → So n entries → Listed n → Reached c limit policy row register cfa n
  so_reached n entries so listed = search (rules, all_among)

  pub so_all : (n : ℕ) (entries : List (ℕ × Option ℕ)) → So n entries → ((r : ℕ) → n ≤ r → is_listed c.register row register r ≡ false) → AreRegisters c limit policy row register cfa entries
  so_all n entries so none = record {
    rise = rise_pairs 0 entries so.rise;
    each = so.each;
    all = λ r is. elim (cases_lt r n) [
      | inl less ↦ so.all r less is
      | inr more ↦ let both : true ≡ false = sym is ∙ none r more in absurd cc
    ];
  }

pub not_listed : (held : ℕ → Option ℕ) (row : Rules) (register r : ℕ) → held r ≡ None → rule row r ≡ Unspecified → register < r → is_listed held row register r ≡ false
not_listed held row register r none unset lt = rw (none, unset, ne_eqb r register (λ same. omega (arith, same, lt))) refl

-- ---- what is left of a row's registers

unlisted : (r low : ℕ) (xs : List (ℕ × RegRule)) → AreSpecified low xs → r < low → rule_in xs r ≡ Unspecified
unlisted r low [] up lt = refl
unlisted r low (x ∷ xs) up lt = rw (ne_eqb x.0 r (λ same. omega (arith, same, up.0, lt))) (unlisted r (suc x.0) xs up.2 (omega (arith, up.0, lt)))

module _ (row : Rules) (from : ℕ) where
  pub left_none : IsLeft row from [] → (r : ℕ) → from ≤ r → rule row r ≡ Unspecified
  left_none left r le = sym (left.same r le)

  module _ (entry : ℕ × RegRule) (rest : List (ℕ × RegRule)) (left : IsLeft row from (entry ∷ rest)) where
    pub left_before : (r : ℕ) → from ≤ r → r < entry.0 → rule row r ≡ Unspecified
    left_before r le lt = sym (left.same r le) ∙ unlisted r entry.0 (entry ∷ rest) (omega arith, left.ascending.1, left.ascending.2) lt
