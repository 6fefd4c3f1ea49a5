-- The registers that a change drops from a row that was narrowed by the row before it.
use Rattle.dw_section.proofs.Words.{◌≡◌, ℕ, suc, Bool, true, false, List, [], ◌∷◌, Option, Some, None, Ok, refl, sym, ap, ◌∙◌, subst, arith, nat_eq, nat_lt, nat_tests, not, inl, inr, filter, cases_Bool, RegRule, kept, Rules, rule, rule_in}
use Rattle.dw_section.proofs.Words.{is_specified, AreSpecified, DiffersFirst, is_kept, Changing, GivesAddress, before_then, same_rows, if◌then◌else◌, filter_keeps, filter_rule, without, FirstDifference, Unspecified}
use Rattle.dw_row.proofs.Lent.RowLists.{Entry}

-- a rule that stays where a test keeps it
abbrev left : (Entry → Bool) → ℕ → RegRule → RegRule
left test r rule = if test (r, rule) then rule else Unspecified

-- registers below one are left where a test keeps them, and the others as they were
abbrev LeavesBelow : (Entry → Bool) → ℕ → List Entry → List Entry → Type 0
LeavesBelow test n old new = (q : ℕ) → rule_in new q ≡ (if nat_lt q n then left test q (rule_in old q) else rule_in old q)

-- what is dropped below a register
pub record DropsBelow (row : Rules) (k : ℕ) (old new : Rules) : Type 0 where
  pub cfa : new.cfa ≡ old.cfa
  pub ascends : AreSpecified 0 new.registers
  pub rules : LeavesBelow (is_kept row.registers) k old.registers new.registers

-- of a row that was narrowed by the row before the change
module _ (shared before row : Rules) (up : AreSpecified 0 shared.registers) (narrowed : kept shared before ≡ shared) where
  -- a register that is not altered stays as it is
  stays : (r : ℕ) → rule before r ≡ rule row r → left (is_kept row.registers) r (rule shared r) ≡ rule shared r
  stays r same =
      ap (λ (x : RegRule). if is_specified x then rule shared r else Unspecified) (sym same)
      ∙ sym (filter_rule (is_kept before.registers) 0 shared.registers r up) ∙ ap (λ (x : Rules). rule x r) narrowed

  module _ (from : ℕ) (mid : Rules) (h : DropsBelow row from shared mid) where
    -- up to the first register that is altered
    up_to : (q : ℕ) → DiffersFirst from before.registers row.registers q → LeavesBelow (is_kept row.registers) q shared.registers mid.registers
    up_to q first r = grind (arith, nat_tests, h.rules r, stays r, first.0, first.1 r)

    pub one_dropped : (q : ℕ) (new : Rules) → DiffersFirst from before.registers row.registers q → is_specified (rule row q) ≡ false → new ≡ without q mid → DropsBelow row (suc q) shared new
    one_dropped q new first none is =
        let others = λ (x : Entry). not (nat_eq x.0 q) in
        let here : DropsBelow row (suc q) shared (without q mid) = record {
          cfa = h.cfa;
          ascends = filter_keeps others 0 mid.registers h.ascends;
          rules = λ r. grind (arith, nat_tests, filter_rule others 0 mid.registers r h.ascends, up_to q first r, none);
        } in
        subst (DropsBelow row (suc q) shared) (sym is) here

    pub one_stays : (q : ℕ) → DiffersFirst from before.registers row.registers q → is_specified (rule row q) ≡ true → DropsBelow row (suc q) shared mid
    one_stays q first some = record { cfa = h.cfa; ascends = h.ascends; rules = λ r. grind (arith, nat_tests, up_to q first r, some) }

    pub all_dropped : FirstDifference from before.registers row.registers None → mid ≡ kept shared row
    all_dropped same =
        same_rows mid (kept shared row) h.ascends (filter_keeps (is_kept row.registers) 0 shared.registers up) h.cfa
        (λ r. grind (arith, nat_tests, h.rules r, stays r, same r, filter_rule (is_kept row.registers) 0 shared.registers r up))

filter_twice : (p : Entry → Bool) (xs : List Entry) → filter p (filter p xs) ≡ filter p xs
filter_twice p [] = refl
filter_twice p (x ∷ xs) = elim (cases_Bool (p x)) [
  | inl e ↦ rw (e, e) (ap (λ (l : List Entry). x ∷ l) (filter_twice p xs))
  | inr e ↦ rw e (filter_twice p xs)
]

pub kept_again : (shared after row : Rules) → after ≡ kept shared row → kept after row ≡ after
kept_again shared after row is = subst (λ (r : Rules). kept r row ≡ r) (sym is) (ap (λ (xs : List Entry). let k : Rules = record { cfa = shared.cfa; registers = xs } in k) (filter_twice (is_kept row.registers) shared.registers))

-- the row before a change is the one that was shown
pub before_is : (shown before : Option Rules) (o : Option ℕ) (to : ℕ) → before ≡ before_then o shown → o ≡ Some to → before ≡ shown
before_is shown before None to is e = absurd cc
before_is shown before (Some a) to is e = is

-- ---- a step

-- the next change is shown, and all others are still to come
pub record NextOf (old next : Changing) (to : ℕ) : Type 0 where
  pub row : Rules
  pub come : old.to_come ≡ (to, row) ∷ next.to_come
  pub shown : next.shown ≡ Some row

pub next_of : (E : Type 0) (old next : Changing) (o : Option ℕ) (to : ℕ) → GivesAddress {E = E} old (Ok o) next → o ≡ Some to → NextOf old next to
next_of E old next None to g e = absurd cc
next_of E old next (Some a) to g e =
    let same : a ≡ to = cc in record { row = g.1.0; come = g.1.1 ∙ ap (λ (n : ℕ). (n, g.1.0) ∷ next.to_come) same; shown = g.1.2 }
