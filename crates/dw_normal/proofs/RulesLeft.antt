-- What is left of a program, and what it is put behind.
use Rattle.dw_normal.proofs.Words.{◌≡◌, ℕ, ◌<◌, List, [], ◌∷◌, ◌++◌, length, sym, ap, ◌∙◌, subst, arith, append_assoc, AllByRecursion, flat_map, append-nil, Target, Instr, Rules, either}
use Rattle.dw_normal.proofs.{Words.{difference, cfa_difference, rule_difference, InstrFits, instr_bytes, program_bytes, rules_from}, Passes.{program_more, both_halves}, RegistersBehind.from_first}

-- what is put before a program's rest
pub record PutBefore (t : Target) (all rest : List Instr) (before now : List ℕ) : Type 0 where
  pub same : now ++ program_bytes t rest ≡ before ++ program_bytes t all
  pub fits : AllByRecursion (InstrFits t) rest

-- ---- what leads from one row to another: to its rule of the CFA, and then to those of its registers

module _ (t : Target) (shared old new : Rules) where
  abbrev cfa : List Instr
  cfa = cfa_difference old.cfa new.cfa

  abbrev rules : List Instr
  rules = rules_from shared old new 0

  pub divided : difference shared old new ≡ cfa ++ rules
  divided = ap (λ (l : List ℕ). cfa ++ flat_map (rule_difference shared old new) l) (sym (from_first (either old new)))

  pub rules_fit : AllByRecursion (InstrFits t) (difference shared old new) → AllByRecursion (InstrFits t) rules
  rules_fit fits = (both_halves (InstrFits t) cfa rules (subst (AllByRecursion (InstrFits t)) divided fits)).1

  pub cfa_fits : AllByRecursion (InstrFits t) (difference shared old new) → AllByRecursion (InstrFits t) cfa
  cfa_fits fits = (both_halves (InstrFits t) cfa rules (subst (AllByRecursion (InstrFits t)) divided fits)).0

  bytes_divided : program_bytes t (difference shared old new) ≡ program_bytes t cfa ++ program_bytes t rules
  bytes_divided = ap (program_bytes t) divided ∙ program_more t cfa rules

  pub put_behind : (out mid : List ℕ) → mid ≡ out ++ program_bytes t cfa → mid ++ program_bytes t rules ≡ out ++ program_bytes t (difference shared old new)
  put_behind out mid is =
      ap (λ (l : List ℕ). l ++ program_bytes t rules) is ∙ append_assoc out (program_bytes t cfa) (program_bytes t rules) ∙ ap (λ (l : List ℕ). out ++ l) (sym bytes_divided)

-- ---- an instruction more

pub shorter : {i : Instr} {rest more : List Instr} → rest ≡ i ∷ more → length more < length rest
shorter one = let long = ap length one in omega (arith, long)

pub put_fits : {t : Target} {all rest more : List Instr} {i : Instr} {before now : List ℕ} → PutBefore t all rest before now → rest ≡ i ∷ more → InstrFits t i
put_fits {t = t} h one = (subst (AllByRecursion (InstrFits t)) one h.fits).0

pub put_next : {t : Target} {all rest more : List Instr} {i : Instr} {before now next : List ℕ} → PutBefore t all rest before now → rest ≡ i ∷ more → next ≡ now ++ instr_bytes t i → PutBefore t all more before next
put_next {t = t} {more = more} {i = i} {now = now} h one is = record {
  same = ap (λ (l : List ℕ). l ++ program_bytes t more) is ∙ append_assoc now (instr_bytes t i) (program_bytes t more) ∙ ap (λ (l : List Instr). now ++ program_bytes t l) (sym one) ∙ h.same;
  fits = (subst (AllByRecursion (InstrFits t)) one h.fits).1;
}

pub put_ends : {t : Target} {all rest : List Instr} {before now : List ℕ} → PutBefore t all rest before now → rest ≡ [] → now ≡ before ++ program_bytes t all
put_ends {t = t} {now = now} h none = sym (append-nil now) ∙ ap (λ (l : List Instr). now ++ program_bytes t l) (sym none) ∙ h.same
