-- Nops behind a program change no rule, no location and no row's start.
use Rattle.dw_section.proofs.Words.{◌≡◌, ℕ, zero, suc, ◌+◌, ◌≤◌, Bool, false, cond, List, [], ◌∷◌, ◌++◌, length, take, Some, refl, sym, ap, subst, ◌∙◌, append_assoc, arith, inl, inr, mul-zero, IsTrue, count_by, slice_get, replicate}
use Rattle.dw_section.proofs.Words.{AllByRecursion, Target, Factors, Instr, CfaRule, RegRule, ProgramSpells, look_back, cfa_change, rule_change, cfa_after, rule_after, CieKept, FdeKept, initial_cfa, initial_rule, onto, back_from, Counts}
use Rattle.dw_section.proofs.Words.{moves_location, row_starts, one_count, cases_lt, length-append, take_all, sum_by-cons, sum_by-append, sum_by-take-le, Nop, in_cie, is_remember, is_restore, keeps_half, KeepsHalves, location_back}
use Rattle.dw_section.proofs.Words.{location, in_table, sum_by-replicate, Unspecified}
use Rattle.dw_row.specs.declared.rule.CfaRule.TheVariants as cfa

abbrev pub nops : ℕ → List Instr
nops n = replicate n Nop

-- ---- spellings

pub program_append : (t : Target) (f : Factors) (xs ys : List Instr) (a b : List ℕ) → ProgramSpells t f xs a → ProgramSpells t f ys b → ProgramSpells t f (xs ++ ys) (a ++ b)
program_append t f [] ys a b p q = subst (λ (c : List ℕ). ProgramSpells t f ys (c ++ b)) (sym p) q
program_append t f (x ∷ xs) ys a b p q = record {
  front = p.front;
  back = p.back ++ b;
  whole = ap (λ (c : List ℕ). c ++ b) p.whole ∙ append_assoc p.front p.back b;
  first = p.first;
  second = program_append t f xs ys p.back b p.second q;
}

pub nops_spelled : (t : Target) (f : Factors) (n : ℕ) → ProgramSpells t f (nops n) (replicate n 0)
nops_spelled t f zero = refl
nops_spelled t f (suc n) = record { front = 0 ∷ []; back = replicate n 0; whole = refl; first = in_table t f Nop (0 ∷ []) refl; second = nops_spelled t f n }

-- ---- columns and locations

none_left : (earlier : List Instr) (k : ℕ) → onto earlier [] k ≡ earlier
none_left earlier zero = refl
none_left earlier (suc k) = refl

past_end : (earlier instrs : List Instr) (k : ℕ) → length instrs ≤ k → onto earlier instrs k ≡ onto earlier instrs (length instrs)
past_end earlier [] k le = none_left earlier k
past_end earlier (i ∷ instrs) zero le = absurd (omega arith)
past_end earlier (i ∷ instrs) (suc k) le = past_end (i ∷ earlier) instrs k (omega arith)

-- what is as it was behind a nop is so behind all of them
module _ {X : Type 0} (found : List Instr → X) (same : (earlier : List Instr) → found (Nop ∷ earlier) ≡ found earlier) where
  behind_nops : (earlier instrs : List Instr) (n k : ℕ) → found (onto earlier (instrs ++ nops n) k) ≡ found (onto earlier instrs k)
  behind_nops earlier [] zero k = refl
  behind_nops earlier [] (suc n) zero = refl
  behind_nops earlier [] (suc n) (suc k) = behind_nops (Nop ∷ earlier) [] n k ∙ ap found (none_left (Nop ∷ earlier) k) ∙ same earlier
  behind_nops earlier (i ∷ instrs) n zero = refl
  behind_nops earlier (i ∷ instrs) n (suc k) = behind_nops (i ∷ earlier) instrs n k

  all_behind : (instrs : List Instr) (n : ℕ) → found (onto [] (instrs ++ nops n) (length (instrs ++ nops n))) ≡ found (onto [] instrs (length instrs))
  all_behind instrs n = behind_nops [] instrs n (length (instrs ++ nops n)) ∙ ap found (past_end [] instrs (length (instrs ++ nops n)) (omega (arith, length-append instrs (nops n))))

pub cfa_nops : (initial : CfaRule) (instrs : List Instr) (n k : ℕ) → cfa_after initial (instrs ++ nops n) k ≡ cfa_after initial instrs k
cfa_nops initial instrs n k = behind_nops (look_back cfa_change initial 0) (λ earlier. refl) [] instrs n k

pub rule_nops : (initial : RegRule) (instrs : List Instr) (n r k : ℕ) → rule_after initial (instrs ++ nops n) r k ≡ rule_after initial instrs r k
rule_nops initial instrs n r k = behind_nops (look_back (rule_change r initial) initial 0) (λ earlier. refl) [] instrs n k

pub initial_cfa_nops : (instrs : List Instr) (n : ℕ) → initial_cfa (instrs ++ nops n) ≡ initial_cfa instrs
initial_cfa_nops instrs n = all_behind (look_back cfa_change cfa.Unset 0) (λ earlier. refl) instrs n

pub initial_rule_nops : (instrs : List Instr) (n r : ℕ) → initial_rule (instrs ++ nops n) r ≡ initial_rule instrs r
initial_rule_nops instrs n r = all_behind (look_back (rule_change r Unspecified) Unspecified 0) (λ earlier. refl) instrs n

location_nops : (begin : ℕ) (instrs : List Instr) (n k : ℕ) → location begin (instrs ++ nops n) k ≡ location begin instrs k
location_nops begin instrs n k = behind_nops (location_back begin) (λ earlier. refl) [] instrs n k

-- behind its end a program is as at its end
within : (instrs : List Instr) (k : ℕ) → (m : ℕ) × (m ≤ length instrs) × (onto [] instrs k ≡ onto [] instrs m) × (take k instrs ≡ take m instrs) × (m ≤ k) × ((j : ℕ) → j ≤ length instrs → j ≤ k → j ≤ m)
within instrs k = elim (cases_lt k (length instrs)) [
  | inl less ↦ (k, omega arith, refl, refl, omega arith, λ j all le. le)
  | inr past ↦ (length instrs, omega arith, past_end [] instrs k past, take_all k instrs past ∙ sym (take_all (length instrs) instrs (omega arith)), past, λ j all le. all)
]

-- with nops behind a program as many of its instructions count at an address
pub counts_nops : (begin : ℕ) (instrs : List Instr) (n a j k : ℕ) → Counts begin instrs a j → Counts begin (instrs ++ nops n) a k → back_from instrs j ≡ back_from instrs k
counts_nops begin instrs n a j k h g =
    let w = within instrs k in
    let counts : Counts begin instrs a w.0 = record {
      in_program = w.1;
      stays = λ m le. rw (location_nops begin instrs n m) at (g.stays m (omega (arith, le, w.4)));
      greatest = λ m le all. w.5 m le (g.greatest m (omega (arith, le, length-append instrs (nops n))) (λ i few. rw (location_nops begin instrs n i) (all i few)));
    } in
    ap (onto [] instrs) (one_count begin instrs a j w.0 h counts) ∙ sym w.2

-- ---- what a program has to keep

all_nops : (P : Instr → Type 0) (instrs : List Instr) (n : ℕ) → P Nop → AllByRecursion P instrs → AllByRecursion P (instrs ++ nops n)
all_nops P [] zero is h = tt
all_nops P [] (suc n) is h = (is, all_nops P [] n is tt)
all_nops P (i ∷ instrs) n is h = (h.0, all_nops P instrs n is h.1)

get_nops : (instrs : List Instr) (n k : ℕ) (i : Instr) → slice_get (instrs ++ nops n) k ≡ Some i → IsTrue (keeps_half i) → slice_get instrs k ≡ Some i
get_nops [] zero k i e keeps = e
get_nops [] (suc n) zero i e keeps = let is : i ≡ Nop = cc in let bad : IsTrue (keeps_half Nop) = rw is at keeps in absurd cc
get_nops [] (suc n) (suc k) i e keeps = get_nops [] n k i e keeps
get_nops (j ∷ instrs) n zero i e keeps = e
get_nops (j ∷ instrs) n (suc k) i e keeps = get_nops instrs n k i e keeps

pub halves_nops : (initial : CfaRule) (instrs : List Instr) (n : ℕ) → KeepsHalves initial instrs → KeepsHalves initial (instrs ++ nops n)
halves_nops initial instrs n h k i e keeps = rw (cfa_nops initial instrs n k) (h k i (get_nops instrs n k i e keeps) keeps)

pub cie_kept_nops : (instrs : List Instr) (n : ℕ) → CieKept instrs → CieKept (instrs ++ nops n)
cie_kept_nops instrs n h = record { allowed = all_nops (λ i. IsTrue (in_cie i)) instrs n refl h.allowed; halves = halves_nops cfa.Unset instrs n h.halves }

module _ (p : Instr → Bool) (none : p Nop ≡ false) where
  abbrev one : Instr → ℕ
  one x = cond (p x) 1 0

  none_counted : (n : ℕ) → count_by p (nops n) ≡ 0
  none_counted n = sum_by-replicate one n Nop ∙ rw (none, mul-zero) refl

  pub count_nops : (instrs : List Instr) (n k : ℕ) → count_by p (take k (instrs ++ nops n)) ≡ count_by p (take k instrs)
  count_nops [] n k =
      let few : count_by p (take k (nops n)) ≤ count_by p (nops n) = sum_by-take-le one (nops n) k in
      let nil : count_by p (take k []) ≤ 0 = sum_by-take-le one [] k in
      omega (arith, few, nil, none_counted n)
  count_nops (i ∷ instrs) n zero = refl
  count_nops (i ∷ instrs) n (suc k) = sum_by-cons one i (take k (instrs ++ nops n)) ∙ ap (λ (m : ℕ). one i + m) (count_nops instrs n k) ∙ sym (sum_by-cons one i (take k instrs))

pub row_starts_nops : (instrs : List Instr) (n : ℕ) → row_starts (instrs ++ nops n) ≡ row_starts instrs
row_starts_nops instrs n = omega (arith, sum_by-append (one moves_location refl) instrs (nops n), none_counted moves_location refl n)

pub fde_kept_nops : (limit begin : ℕ) (initial : CfaRule) (instrs : List Instr) (n : ℕ) → FdeKept limit begin initial instrs → FdeKept limit begin initial (instrs ++ nops n)
fde_kept_nops limit begin initial instrs n h = record {
  halves = halves_nops initial instrs n h.halves;
  forwards = λ k lt. elim (cases_lt k (length instrs)) [
    | inl less ↦ rw (location_nops begin instrs n k, location_nops begin instrs n (k + 1)) (h.forwards k less)
    | inr past ↦ rw (location_nops begin instrs n k, location_nops begin instrs n (k + 1), ap (location_back begin) (past_end [] instrs k past), ap (location_back begin) (past_end [] instrs (k + 1) (omega arith))) (omega arith)
  ];
  in_space = λ k le. let w = within instrs k in rw (location_nops begin instrs n k, ap (location_back begin) w.2) (h.in_space w.0 w.1);
  matched = λ k le. let w = within instrs k in rw (count_nops is_restore refl instrs n k, count_nops is_remember refl instrs n k, w.3) (h.matched w.0 w.1);
  room = λ k le. let w = within instrs k in rw (count_nops is_restore refl instrs n k, count_nops is_remember refl instrs n k, w.3) (h.room w.0 w.1);
}
