-- The instructions of a difference lead from the one row to the other, with no fault.
use Rattle.dw_canon.proofs.Words.{◌≡◌, ◌⊎◌, ℕ, Bool, true, false, List, [], ◌∷◌, ◌++◌, None, refl, sym, ap, ◌∙◌, subst, inl, inr, arith, nat_eq, nat_lt, if◌then◌else◌, map, flat_map, cases_Bool, eqb-true, eqb-false}
use Rattle.dw_canon.proofs.Words.{Target, Instr, Set, Restore, CfaRule, RegRule, moves_location, keeps_half, State, after, half_fault, fde_fault, Rules, AreSpecified, rule, rule_in, same_rows, cfa_to, either, cfa_difference}
use Rattle.dw_canon.proofs.Words.{rule_difference, difference, with_register, with_registers, CfaFits, RowFits, same_cfa, same_rule, cfa_tells, rule_tells}
use Rattle.dw_row.specs.Rows.{with_cfa, with_rule}
use Rattle.dw_row.proofs.Lent.RowLists.{put_rule, put_keeps}
use Rattle.dw_row.specs.declared.rule.CfaRule.TheVariants as cfa
use Rattle.dw_row.specs.declared.rule.RegRule.TheVariants as rules

-- ---- instructions that move no location, and run without a fault from one state to another

abbrev pub Quiet : ℕ → Rules → List Instr → State → State → Type 0
Quiet limit initial [] s s' = s ≡ s'
Quiet limit initial (i ∷ instrs) s s' = (moves_location i ≡ false) × (fde_fault limit i s ≡ None) × Quiet limit initial instrs (after initial i s) s'

pub quiet_more : (limit : ℕ) (initial : Rules) (xs ys : List Instr) (s m s' : State) → Quiet limit initial xs s m → Quiet limit initial ys m s' → Quiet limit initial (xs ++ ys) s s'
quiet_more limit initial [] ys s m s' h k = subst (λ (x : State). Quiet limit initial ys x s') (sym h) k
quiet_more limit initial (x ∷ xs) ys s m s' h k = (h.0, h.1, quiet_more limit initial xs ys (after initial x s) m s' h.2 k)

-- a row at a location, with no remembered ones
abbrev pub on : Rules → ℕ → State
on row at = record { row = row; stack = []; location = at }

-- no fault stands against an instruction that keeps no half of the CFA's rule
pub no_half : (i : Instr) (c : CfaRule) → keeps_half i ≡ false → half_fault i c ≡ None
no_half i (cfa.Register r n) e = refl
no_half i c e = rw e refl

-- ---- the CFA

module _ (limit : ℕ) (initial old : Rules) (at : ℕ) where
  -- one instruction that makes of the CFA's rule the new one
  cfa_leads : (t : Target) (c new : CfaRule) → old.cfa ≡ c → CfaFits t c → CfaFits t new → (new ≡ cfa.Unset → ⊥)
      → Quiet limit initial (cfa_to c new) (on old at) (on (with_cfa new old) at)
  cfa_leads t c cfa.Unset is h k set = absurd (set refl)
  cfa_leads t cfa.Unset (cfa.Expression e) is h k set = (refl, rw is refl, refl)
  cfa_leads t (cfa.Register r n) (cfa.Expression e) is h k set = (refl, rw is refl, refl)
  cfa_leads t (cfa.Expression x) (cfa.Expression e) is h k set = (refl, rw is refl, refl)
  cfa_leads t cfa.Unset (cfa.Register q m) is h k set = (refl, rw is refl, refl)
  cfa_leads t (cfa.Expression x) (cfa.Register q m) is h k set = (refl, rw is refl, refl)
  cfa_leads t (cfa.Register r n) (cfa.Register q m) is h k set = grind arith

  pub cfa_quiet : (t : Target) (new : CfaRule) → CfaFits t old.cfa → CfaFits t new → ((new ≡ cfa.Unset) → old.cfa ≡ cfa.Unset)
      → Quiet limit initial (cfa_difference old.cfa new) (on old at) (on (with_cfa new old) at)
  cfa_quiet t new h k set = elim (cases_Bool (same_cfa old.cfa new)) [
    | inl e ↦ rw e (ap (λ (c : CfaRule). on (with_cfa c old) at) ((cfa_tells old.cfa new).0 e))
    | inr e ↦ rw e (cfa_leads t old.cfa new refl h k (λ unset. let both : same_cfa old.cfa new ≡ true = rw (unset, set unset) refl in absurd cc))
  ]

-- ---- the registers

-- what setting the registers of a list leaves
abbrev pub written_one : Rules → Rules → ℕ → Rules → Rules
written_one old new r row = if same_rule (rule old r) (rule new r) then row else with_rule r (rule new r) row

abbrev pub written_by : Rules → Rules → List ℕ → Rules → Rules
written_by old new [] row = row
written_by old new (r ∷ rs) row = written_by old new rs (written_one old new r row)

module _ (t : Target) (limit : ℕ) (initial old new : Rules) (at : ℕ) (h : RowFits t initial) (k : RowFits t new) where
  one_quiet : (r : ℕ) (row : Rules) → Quiet limit initial (rule_difference initial old new r) (on row at) (on (written_one old new r row) at)
  one_quiet r row = elim (cases_Bool (same_rule (rule old r) (rule new r))) [
    | inl e ↦ rw e refl
    | inr e ↦ rw e (elim (cases_Bool (same_rule (rule new r) (rule initial r))) [
      | inl f ↦ rw f (refl, no_half (Restore r) row.cfa refl, ap (λ (x : RegRule). on (with_rule r x row) at) (sym ((rule_tells (rule new r) (rule initial r)).0 f)))
      | inr f ↦ rw f (refl, no_half (Set r (rule new r)) row.cfa refl, refl)
    ])
  ]

  pub registers_quiet : (rs : List ℕ) (row : Rules) → Quiet limit initial (flat_map (rule_difference initial old new) rs) (on row at) (on (written_by old new rs row) at)
  registers_quiet [] row = refl
  registers_quiet (r ∷ rs) row =
      let next = written_one old new r row in
      quiet_more limit initial (rule_difference initial old new r) (flat_map (rule_difference initial old new) rs) (on row at) (on next at) (on (written_by old new rs next) at)
      (one_quiet r row) (registers_quiet rs next)

  -- ---- what they leave

  one_cfa : (r : ℕ) (row : Rules) → (written_one old new r row).cfa ≡ row.cfa
  one_cfa r row = elim (cases_Bool (same_rule (rule old r) (rule new r))) [ inl e ↦ rw e refl | inr e ↦ rw e refl ]

  one_listed : (r : ℕ) (row : Rules) → AreSpecified 0 row.registers → AreSpecified 0 (written_one old new r row).registers
  one_listed r row up = elim (cases_Bool (same_rule (rule old r) (rule new r))) [ inl e ↦ rw e up | inr e ↦ rw e (put_keeps r (rule new r) 0 row.registers up (omega arith)) ]

  pub written_cfa : (rs : List ℕ) (row : Rules) → (written_by old new rs row).cfa ≡ row.cfa
  written_cfa [] row = refl
  written_cfa (r ∷ rs) row = written_cfa rs (written_one old new r row) ∙ one_cfa r row

  pub written_listed : (rs : List ℕ) (row : Rules) → AreSpecified 0 row.registers → AreSpecified 0 (written_by old new rs row).registers
  written_listed [] row up = up
  written_listed (r ∷ rs) row up = written_listed rs (written_one old new r row) (one_listed r row up)

-- a register is one of a list
abbrev pub In : ℕ → List ℕ → Type 0
In q [] = ⊥
In q (r ∷ rs) = (r ≡ q) ⊎ In q rs

module _ (t : Target) (initial old new : Rules) (h : RowFits t initial) (j : RowFits t old) (k : RowFits t new) (q : ℕ) where
  -- the register has its new rule, or its old one and is still to come
  abbrev pub Owes : List ℕ → Rules → Type 0
  Owes rs row = (rule row q ≡ rule new q) ⊎ ((rule row q ≡ rule old q) × In q rs)

  -- one register more was written
  one_set : (r : ℕ) (rs : List ℕ) (row : Rules) → AreSpecified 0 row.registers → (b : Bool) → nat_eq r q ≡ b → Owes (r ∷ rs) row → Owes rs (with_rule r (rule new r) row)
  one_set r rs row up true e owes = inl (put_rule r (rule new r) 0 row.registers q up ∙ rw e (ap (rule new) (eqb-true r q e)))
  one_set r rs row up false e (inl now) = inl (put_rule r (rule new r) 0 row.registers q up ∙ rw e now)
  one_set r rs row up false e (inr (was, inl here)) = absurd (eqb-false r q e here)
  one_set r rs row up false e (inr (was, inr more)) = inr (put_rule r (rule new r) 0 row.registers q up ∙ rw e was, more)

  -- one that has its new rule was left
  one_left : (r : ℕ) (rs : List ℕ) (row : Rules) → same_rule (rule old r) (rule new r) ≡ true → Owes (r ∷ rs) row → Owes rs row
  one_left r rs row e (inl now) = inl now
  one_left r rs row e (inr (was, inl here)) = grind (arith, rule_tells)
  one_left r rs row e (inr (was, inr more)) = inr (was, more)

  one_owes : (r : ℕ) (rs : List ℕ) (row : Rules) → AreSpecified 0 row.registers → Owes (r ∷ rs) row → Owes rs (written_one old new r row)
  one_owes r rs row up owes = grind (arith, one_left, one_set)

  pub written_rule : (rs : List ℕ) (row : Rules) → AreSpecified 0 row.registers → Owes rs row → rule (written_by old new rs row) q ≡ rule new q
  written_rule [] row up (inl now) = now
  written_rule [] row up (inr owed) = absurd owed.1
  written_rule (r ∷ rs) row up owes = grind (arith, written_rule rs (written_one old new r row) (one_listed t 0 initial old new 0 h k r row up) (one_owes r rs row up owes))

-- ---- which registers are listed

behind_one : (q r x : ℕ) (rs : List ℕ) → ((r ≡ q) ⊎ In q rs → In q (with_register r rs)) → (r ≡ q) ⊎ In q (x ∷ rs) → In q (x ∷ with_register r rs)
behind_one q r x rs more (inl e) = inr (more (inl e))
behind_one q r x rs more (inr (inl e)) = inl e
behind_one q r x rs more (inr (inr h)) = inr (more (inr h))

at_one : (q r x : ℕ) (rs : List ℕ) → nat_eq r x ≡ true → (r ≡ q) ⊎ In q (x ∷ rs) → In q (x ∷ rs)
at_one q r x rs same (inl e) = inl (sym (eqb-true r x same) ∙ e)
at_one q r x rs same (inr h) = h

with_one : (q r : ℕ) (rs : List ℕ) → (r ≡ q) ⊎ In q rs → In q (with_register r rs)
with_one q r [] (inl e) = inl e
with_one q r [] (inr h) = absurd h
with_one q r (x ∷ rs) h = grind (arith, at_one, behind_one, with_one q r rs)

pub with_all : (q : ℕ) (rs qs : List ℕ) → In q rs ⊎ In q qs → In q (with_registers rs qs)
with_all q [] qs (inl h) = absurd h
with_all q [] qs (inr h) = h
with_all q (r ∷ rs) qs (inl (inl e)) = with_all q rs (with_register r qs) (inr (with_one q r qs (inl e)))
with_all q (r ∷ rs) qs (inl (inr h)) = with_all q rs (with_register r qs) (inl h)
with_all q (r ∷ rs) qs (inr h) = with_all q rs (with_register r qs) (inr (with_one q r qs (inr h)))

listed_or : (q : ℕ) (xs : List (ℕ × RegRule)) → In q (map (λ (entry : ℕ × RegRule). entry.0) xs) ⊎ (rule_in xs q ≡ rules.Unspecified)
listed_or q [] = inr refl
listed_or q (x ∷ xs) = grind (arith, listed_or q xs)

-- a register is listed, or is Unspecified in both rows
pub either_or : (old new : Rules) (q : ℕ) → In q (either old new) ⊎ (rule old q ≡ rule new q)
either_or old new q = grind (arith, listed_or, with_all)

-- ---- the whole

module _ (t : Target) (initial old new : Rules) (h : RowFits t initial) (j : RowFits t old) (k : RowFits t new) where
  -- what is written is the new row
  pub written_is : written_by old new (either old new) (with_cfa new.cfa old) ≡ new
  written_is =
      same_rows (written_by old new (either old new) (with_cfa new.cfa old)) new
      (written_listed t 0 initial old new 0 h k (either old new) (with_cfa new.cfa old) j.listed) k.listed
      (written_cfa t 0 initial old new 0 h k (either old new) (with_cfa new.cfa old))
      (λ q. written_rule t initial old new h j k q (either old new) (with_cfa new.cfa old) j.listed (elim (either_or old new q) [ inl listed ↦ inr (refl, listed) | inr same ↦ inl same ]))

  pub difference_quiet : (limit at : ℕ) → ((new.cfa ≡ cfa.Unset) → old.cfa ≡ cfa.Unset) → Quiet limit initial (difference initial old new) (on old at) (on new at)
  difference_quiet limit at set =
      quiet_more limit initial (cfa_difference old.cfa new.cfa) (flat_map (rule_difference initial old new) (either old new)) (on old at) (on (with_cfa new.cfa old) at) (on new at)
      (cfa_quiet limit initial old at t new.cfa j.cfa k.cfa set)
      (subst (λ (row : Rules). Quiet limit initial (flat_map (rule_difference initial old new) (either old new)) (on (with_cfa new.cfa old) at) (on row at)) written_is
      (registers_quiet t limit initial old new at h k (either old new) (with_cfa new.cfa old)))
