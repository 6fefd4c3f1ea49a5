-- The instructions of a member's program, and of a CIE's, can be spelled.
use Rattle.dw_row.specs.declared.rule.CfaRule.TheVariants as cfa
use Rattle.dw_row.specs.declared.rule.RegRule.TheVariants as rules
use Rattle.dw_cfa.proofs.Lent.RowFits.{rule_fits}
use Rattle.dw_canon.proofs.Words.{◌≡◌, ℕ, zero, suc, ◌-◌, ◌<◌, ◌≤◌, ◌^◌, true, false, List, [], ◌∷◌, ◌++◌, map, replicate, refl, inl, inr, arith, nat_lt, IsTrue, flat_map, AllByRecursion, keys_of}
use Rattle.dw_canon.proofs.Words.{cases_Bool, ltb-true, Target, address_limit, Nop, CfaRule, RegRule, in_cie, Rules, rule, is_specified, blank, fde_instrs, cie_instrs, cfa_to, either, move, cfa_difference, rule_difference}
use Rattle.dw_canon.proofs.{Words.{difference, later_changes, with_register, with_registers, CfaFits, RuleFits, RowFits, RestsOn, ChangesStand, MemberStands, InstrFits, Member, same_cfa, same_rule}, Lent.Programs.below_end}

pub all_more : {X : Type 0} (P : X → Type 0) (xs ys : List X) → AllByRecursion P xs → AllByRecursion P ys → AllByRecursion P (xs ++ ys)
all_more P [] ys h k = k
all_more P (x ∷ xs) ys h k = (h.0, all_more P xs ys h.1 k)

pub all_flat : {X Y : Type 0} (P : Y → Type 0) (Q : X → Type 0) (f : X → List Y) → ((x : X) → Q x → AllByRecursion P (f x)) → (xs : List X) → AllByRecursion Q xs → AllByRecursion P (flat_map f xs)
all_flat P Q f each [] h = tt
all_flat P Q f each (x ∷ xs) h = all_more P (f x) (flat_map f xs) (each x h.0) (all_flat P Q f each xs h.1)

pub nops_fit : (t : Target) (n : ℕ) → AllByRecursion (InstrFits t) (replicate n Nop)
nops_fit t zero = tt
nops_fit t (suc n) = (tt, nops_fit t n)

-- ---- the registers are those of the rows

with_one : (P : ℕ → Type 0) (r : ℕ) (rs : List ℕ) → P r → AllByRecursion P rs → AllByRecursion P (with_register r rs)
with_one P r [] h k = (h, tt)
with_one P r (x ∷ rs) h k = grind (arith, with_one P r rs h k.1)

pub with_all : (P : ℕ → Type 0) (rs qs : List ℕ) → AllByRecursion P rs → AllByRecursion P qs → AllByRecursion P (with_registers rs qs)
with_all P [] qs h k = k
with_all P (r ∷ rs) qs h k = with_all P rs (with_register r qs) h.1 (with_one P r qs h.0 k)

entries_fit : (t : Target) (xs : List (ℕ × RegRule)) → AllByRecursion (λ (entry : ℕ × RegRule). (entry.0 < 65536) × RuleFits t entry.1) xs → AllByRecursion (λ (r : ℕ). r < 65536) (map (λ (entry : ℕ × RegRule). entry.0) xs)
entries_fit t [] h = tt
entries_fit t (x ∷ xs) h = (h.0.0, entries_fit t xs h.1)

pub either_fits : (t : Target) (old new : Rules) → RowFits t old → RowFits t new → AllByRecursion (λ (r : ℕ). r < 65536) (either old new)
either_fits t old new h k = with_all (λ (r : ℕ). r < 65536) (keys_of old.registers) (keys_of new.registers) (entries_fit t old.registers h.registers) (entries_fit t new.registers k.registers)

-- ---- a difference

cfa_to_fits : (t : Target) (old new : CfaRule) → CfaFits t new → AllByRecursion (InstrFits t) (cfa_to old new)
cfa_to_fits t (cfa.Register r n) (cfa.Register q m) h = grind arith
cfa_to_fits t old cfa.Unset h = tt
cfa_to_fits t old new h = (h, tt)

cfa_fits : (t : Target) (old new : CfaRule) → CfaFits t new → AllByRecursion (InstrFits t) (cfa_difference old new)
cfa_fits t old new h = elim (cases_Bool (same_cfa old new)) [ inl e ↦ rw e tt | inr e ↦ rw e (cfa_to_fits t old new h) ]

-- a rule other than the initial one is not Unspecified
set_specified : (x first : RegRule) → (x ≡ rules.Unspecified → first ≡ rules.Unspecified) → same_rule x first ≡ false → IsTrue (is_specified x)
set_specified rules.Unspecified first rests e = let same : same_rule rules.Unspecified first ≡ true = rw (rests refl) refl in absurd cc
set_specified x first rests e = refl

module _ (t : Target) (initial old new : Rules) (h : RowFits t old) (k : RowFits t new) (rests : RestsOn initial new) where
  one_fits : (r : ℕ) → r < 65536 → AllByRecursion (InstrFits t) (rule_difference initial old new r)
  one_fits r lt = elim (cases_Bool (same_rule (rule old r) (rule new r))) [
    | inl e ↦ rw e tt
    | inr e ↦ rw e (elim (cases_Bool (same_rule (rule new r) (rule initial r))) [
      | inl f ↦ rw f (lt, tt)
      | inr f ↦ rw f ((lt, rule_fits t new k r, set_specified (rule new r) (rule initial r) (rests r) f), tt)
    ])
  ]

  pub difference_fits : AllByRecursion (InstrFits t) (difference initial old new)
  difference_fits =
      all_more (InstrFits t) (cfa_difference old.cfa new.cfa) (flat_map (rule_difference initial old new) (either old new)) (cfa_fits t old.cfa new.cfa k.cfa)
      (all_flat (InstrFits t) (λ (r : ℕ). r < 65536) (rule_difference initial old new) one_fits (either old new) (either_fits t old new h k))

-- ---- a program

move_fits : (t : Target) (at to : ℕ) → to < address_limit t.size → InstrFits t (move at to)
move_fits t at to lt = elim (cases_Bool (nat_lt (to - at) (2 ^ 32))) [ inl e ↦ rw e (ltb-true (to - at) (2 ^ 32) e) | inr e ↦ rw e lt ]

later_fits : (t : Target) (initial : Rules) (end at : ℕ) (row : Rules) (changes : List (ℕ × Rules)) → end ≤ address_limit t.size → RowFits t row → ChangesStand t initial end at row changes
    → AllByRecursion (InstrFits t) (later_changes initial at row changes)
later_fits t initial end at row [] le fits h = tt
later_fits t initial end at row (change ∷ changes) le fits h =
    let below = below_end t initial end change.0 change.1 changes h.3 in
    (move_fits t at change.0 (omega arith), all_more (InstrFits t) (difference initial row change.1) (later_changes initial change.0 change.1 changes) (difference_fits t initial row change.1 fits h.2.fits h.2.rests) (later_fits t initial end change.0 change.1 changes le h.2.fits h.3))

pub member_fits : (t : Target) (initial : Rules) (m : Member) → RowFits t initial → MemberStands t initial m → AllByRecursion (InstrFits t) (fde_instrs initial m)
member_fits t initial m fits h =
    all_more (InstrFits t) (difference initial initial m.first) (later_changes initial m.begin m.first m.later)
    (difference_fits t initial initial m.first fits h.first.fits h.first.rests) (later_fits t initial m.end m.begin m.first m.later h.in_space h.first.fits h.later)

-- ---- a CIE's program

pub blank_fits : (t : Target) → RowFits t blank
blank_fits t = record { cfa = tt; registers = tt; listed = tt }

pub cie_fits : (t : Target) (initial : Rules) → RowFits t initial → AllByRecursion (InstrFits t) (cie_instrs initial)
cie_fits t initial fits = difference_fits t blank blank initial (blank_fits t) fits (λ r e. refl)

-- it holds what a CIE may hold
cie_cfa_to : (old new : CfaRule) → AllByRecursion (λ i. IsTrue (in_cie i)) (cfa_to old new)
cie_cfa_to (cfa.Register r n) (cfa.Register q m) = grind arith
cie_cfa_to old cfa.Unset = tt
cie_cfa_to old new = (refl, tt)

cie_one : (initial : Rules) (r : ℕ) → AllByRecursion (λ i. IsTrue (in_cie i)) (rule_difference blank blank initial r)
cie_one initial r = grind arith

any_register : (rs : List ℕ) → AllByRecursion (λ (r : ℕ). Unit {0}) rs
any_register [] = tt
any_register (r ∷ rs) = (tt, any_register rs)

pub cie_allowed : (initial : Rules) → AllByRecursion (λ i. IsTrue (in_cie i)) (cie_instrs initial)
cie_allowed initial =
    all_more (λ i. IsTrue (in_cie i)) (cfa_difference cfa.Unset initial.cfa) (flat_map (rule_difference blank blank initial) (either blank initial))
    (elim (cases_Bool (same_cfa cfa.Unset initial.cfa)) [ inl e ↦ rw e tt | inr e ↦ rw e (cie_cfa_to cfa.Unset initial.cfa) ])
    (all_flat (λ i. IsTrue (in_cie i)) (λ (r : ℕ). Unit {0}) (rule_difference blank blank initial) (λ r any. cie_one initial r) (either blank initial) (any_register (either blank initial)))
