-- What is run of a program keeps its rules, in the terms of what programs have to keep, and a program that keeps them is run.
use Rattle.dw_cfa.proofs.Words.{◌≡◌, ℕ, zero, suc, ◌+◌, Bool, true, false, cond, List, [], ◌∷◌, take, Some, None, refl, sym, subst, arith, add-one, IsTrue, count_by, slice_get, AllByRecursion, sum_by-cons, NotInCie, CfaRule, Factors, Instr}
use Rattle.dw_cfa.proofs.Words.{Placed, Rules, Target, address_limit, ProgramSpells, onto, look_back, cfa_change, is_remember, is_restore, in_cie, keeps_half, IsRegisterRule, CieKept, FdeKept, blank, begun, written, half_fault, cie_fault}
use Rattle.dw_cfa.proofs.{Lent.{Forward.{Follows, begun_follows}, KeptRuns.{KeptFrom, AllInLimit, keeps_fault, half_kept}, RowsAt.instrs_of}, Initial.written_follows, Placings.spells_in_limit, Stops.AllRun}
use Rattle.dw_row.specs.declared.rule.CfaRule.TheVariants as cfa

-- ---- a CIE's program

-- half of a rule is kept of a register and an offset alone, behind instructions that came earlier
abbrev pub CieHalves : List Instr → List Instr → Type 0
CieHalves earlier instrs = (k : ℕ) (i : Instr) → slice_get instrs k ≡ Some i → IsTrue (keeps_half i) → IsRegisterRule (look_back cfa_change cfa.Unset 0 (onto earlier instrs k))

allowed_then : (i : Instr) (row : Rules) (b : Bool) → in_cie i ≡ b → cond b (half_fault i row.cfa) (Some NotInCie) ≡ None → IsTrue (in_cie i) × (half_fault i row.cfa ≡ None)
allowed_then i row true is e = (is, e)
allowed_then i row false is e = absurd cc

all_allowed : (items : List Placed) (row : Rules) → AllRun cie_fault written items row → AllByRecursion (λ i. IsTrue (in_cie i)) (instrs_of items)
all_allowed [] row run = tt
all_allowed (item ∷ items) row run = ((allowed_then item.instr row (in_cie item.instr) refl run.0).0, all_allowed items (written item.instr row) run.1)

halves_from : (items : List Placed) (earlier : List Instr) (row : Rules) → Follows blank 0 earlier (begun row 0) → AllRun cie_fault written items row → CieHalves earlier (instrs_of items)
halves_from [] earlier row h run k i is keeps = absurd cc
halves_from (item ∷ items) earlier row h run zero i is keeps =
    let same : item.instr ≡ i = cc in
    subst IsRegisterRule h.row.cfa (half_kept item.instr row.cfa (allowed_then item.instr row (in_cie item.instr) refl run.0).1 (subst (λ (x : Instr). IsTrue (keeps_half x)) (sym same) keeps))
halves_from (item ∷ items) earlier row h run (suc k) i is keeps = halves_from items (item.instr ∷ earlier) (written item.instr row) (written_follows item.instr earlier row h run.0) run.1 k i is keeps

pub cie_kept : (items : List Placed) → AllRun cie_fault written items blank → CieKept (instrs_of items)
cie_kept items run = record { allowed = all_allowed items blank run; halves = halves_from items [] blank (begun_follows blank 0 tt) run }

pub cie_runs : (items : List Placed) (earlier : List Instr) (row : Rules) → Follows blank 0 earlier (begun row 0) → AllByRecursion (λ i. IsTrue (in_cie i)) (instrs_of items) → CieHalves earlier (instrs_of items)
    → AllRun cie_fault written items row
cie_runs [] earlier row h allowed halves = tt
cie_runs (item ∷ items) earlier row h allowed halves =
    let half = keeps_fault item.instr row.cfa (λ keeps. subst IsRegisterRule (sym h.row.cfa) (halves 0 item.instr refl keeps)) in
    let in_it : in_cie item.instr ≡ true = allowed.0 in
    let none : cie_fault item.instr row ≡ None = rw in_it half in
    (none, cie_runs items (item.instr ∷ earlier) (written item.instr row) (written_follows item.instr earlier row h none) allowed.1 (λ k. halves (suc k)))

-- ---- an FDE's program

pub counted : (p : Instr → Bool) (earlier instrs : List Instr) (k : ℕ) → count_by p (onto earlier instrs k) ≡ count_by p (take k instrs) + count_by p earlier
counted p earlier instrs zero = omega arith
counted p earlier [] (suc k) = omega arith
counted p earlier (i ∷ instrs) (suc k) =
    let rest = counted p (i ∷ earlier) instrs k in
    let a = sum_by-cons (λ (x : Instr). cond (p x) 1 0) i earlier in
    let b = sum_by-cons (λ (x : Instr). cond (p x) 1 0) i (take k instrs) in
    omega (arith, rest, a, b)

pub fde_kept : (limit begin : ℕ) (initial : CfaRule) (instrs : List Instr) → KeptFrom limit begin initial [] instrs → FdeKept limit begin initial instrs
fde_kept limit begin initial instrs h = record {
  halves = h.halves;
  forwards = λ k lt. rw add-one (h.forwards k lt);
  in_space = h.in_space;
  matched = λ k le. omega (arith, h.matched k le, counted is_remember [] instrs k, counted is_restore [] instrs k);
  room = λ k le. omega (arith, h.room k le, counted is_remember [] instrs k, counted is_restore [] instrs k);
}

pub kept_fde : (limit begin : ℕ) (initial : CfaRule) (instrs : List Instr) → FdeKept limit begin initial instrs → KeptFrom limit begin initial [] instrs
kept_fde limit begin initial instrs h = record {
  halves = h.halves;
  forwards = λ k lt. rw add-one at (h.forwards k lt);
  in_space = h.in_space;
  matched = λ k le. omega (arith, h.matched k le, counted is_remember [] instrs k, counted is_restore [] instrs k);
  room = λ k le. omega (arith, h.room k le, counted is_remember [] instrs k, counted is_restore [] instrs k);
}

-- the addresses of a program are within the limit
pub all_in_limit : (t : Target) (f : Factors) (instrs : List Instr) (b : List ℕ) → ProgramSpells t f instrs b → AllInLimit (address_limit t.size) instrs
all_in_limit t f [] b h = tt
all_in_limit t f (i ∷ instrs) b h = (spells_in_limit t f i h.front h.first, all_in_limit t f instrs h.back h.second)
