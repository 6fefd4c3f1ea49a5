-- The rules of an accepted section fit: programs that are spelled give no others.
use Rattle.dw_row.specs.declared.rule.CfaRule.TheVariants as cfa
use Rattle.dw_row.specs.declared.rule.RegRule.TheVariants as rules
use Rattle.dw_section.specs.Inner.Sound.{ChangeFits, Steps, AllStep, SoundSection}
use Rattle.dw_section.proofs.Words.{ℕ, suc, ◌<◌, ◌≤◌, List, [], ◌∷◌, length, sym, ap, subst, ◌∙◌, arith, AllByRecursion, Target, Instr, initial_cfa, initial_rule, Rules, rule, HoldsAt, ChangesBehind}
use Rattle.dw_section.proofs.{Words.{AreChanges, RowFits, factors_of, FdeSays, Fde, counts_exists, CfaFits}, Lent.Fitting.{Gives, instr_gives, program_all, Fitting, cfa_found, rule_found, entries_fit}}
use Rattle.dw_section.proofs.{Lent.Index.all_in, Lent.Registers.fdes_registers, Lent.Rowed.holds_on, Lent.Sections.{cfa_programs, begin_low, listed_programs}, Stages.all_weaker}

-- ---- rows

-- a row that has the rules at an address of an FDE
pub row_fits : (t : Target) (s : List ℕ) (begin end a : ℕ) (i j : List Instr) (row : Rules) → FdeSays t s begin end i j → begin ≤ a → HoldsAt i j begin a row → RowFits t row
row_fits t s begin end a i j row h le holds =
    let f = factors_of h.spelled.head in
    let gi = program_all (Gives t) t f (instr_gives t f) i h.spelled.head.program.bytes h.spelled.begins.spelled in
    let gj = program_all (Gives t) t f (instr_gives t f) j h.head.program.bytes h.spelled.spelled in
    let c = counts_exists begin j a le in
    let here = holds c.0 c.1 in
    record {
      cfa = subst (CfaFits t) (sym here.cfa) (cfa_found t (initial_cfa i) j c.0 (cfa_found t cfa.Unset i (length i) tt gi) gj);
      registers = entries_fit t 0 row.registers here.listed (λ r. subst (Fitting t r) (sym (here.rules r)) (rule_found t (initial_rule i r) j r c.0 (rule_found t rules.Unspecified i r (length i) (tt, λ e. absurd cc) gi) gj));
      listed = here.listed;
    }

-- ---- changes

module _ (i j : List Instr) (begin end : ℕ) where
  abbrev pub Held : ℕ × Rules → Type 0
  Held change = (begin ≤ change.0) × (change.0 < end) × HoldsAt i j begin change.0 change.1

  pub held_behind : (low : ℕ) (changes : List (ℕ × Rules)) → begin ≤ low → ChangesBehind i j begin end low changes → AllByRecursion Held changes
  held_behind low [] le c = tt
  held_behind low (change ∷ changes) le c =
      let from : begin ≤ suc c.0 = omega (arith, c.2) in (
        (omega (arith, c.1, c.2), omega (arith, c.1, c.3), subst (λ (a : ℕ). HoldsAt i j begin a change.1) (sym c.1) c.6),
        held_behind (suc c.0) changes from c.7,
      )

  pub held_all : (changes : List (ℕ × Rules)) → begin < end → AreChanges i j begin end changes → AllByRecursion Held changes
  held_all [] lt c = absurd c
  held_all (first ∷ changes) lt c = ((omega (arith, c.0), omega (arith, c.0), subst (λ (a : ℕ). HoldsAt i j begin a first.1) (sym c.0) c.1), held_behind begin changes (omega arith) c.2)

  steps_behind : (low : ℕ) (row : Rules) (changes : List (ℕ × Rules)) → begin ≤ low → HoldsAt i j begin low row → ChangesBehind i j begin end low changes → Steps low row changes
  steps_behind low row [] le h c = tt
  steps_behind low row (change ∷ changes) le h c =
      let a = c.0 in
      let from : begin ≤ a = omega (arith, c.2) in
      let was = holds_on i j begin low (suc a) a row le c.4 c.2 (omega arith) h in
      let differs = c.5 in
      let rest = steps_behind (suc a) change.1 changes (omega arith) c.6 c.7 in (
        omega (arith, c.1, c.2),
        λ same.
            let x = was differs.j differs.before in
            let y = c.6 differs.k differs.after in
            differs.other (record {
              cfa = sym x.cfa ∙ ap (λ (r : Rules). r.cfa) same ∙ y.cfa;
              rules = λ r. sym (x.rules r) ∙ ap (λ (q : Rules). rule q r) same ∙ y.rules r;
            }),
        subst (λ (n : ℕ). Steps n change.1 changes) (sym c.1) rest,
      )

  pub steps_all : (changes : List (ℕ × Rules)) → AreChanges i j begin end changes → AllStep begin changes
  steps_all [] c = absurd c
  steps_all (first ∷ changes) c = (c.0, subst (λ (n : ℕ). Steps n first.1 changes) (sym c.0) (steps_behind begin first.1 changes (omega arith) c.1 c.2))

pub sound_section : SoundSection
sound_section target s b ok fs f changes are listed h =
    let some = (listed_programs target s b ok fs f are listed).0 in
    let each : (change : ℕ × Rules) → Held h.initial h.instrs f.begin f.end change → ChangeFits target f.end change = λ change held.
    let c = counts_exists f.begin h.instrs change.0 held.0 in
    let here = held.2 c.0 c.1 in (
      held.1,
      row_fits target s f.begin f.end change.0 h.initial h.instrs change.1 h.says held.0 held.2,
      λ unset. cfa_programs target s b ok f.begin f.end change.0 h.initial h.instrs h.says held.0 held.1 c.0 c.1 (sym here.cfa ∙ unset),
    ) in
    record {
      some = some;
      in_space = (begin_low target s b ok f.begin f.end h.initial h.instrs h.says).1;
      register = all_in (λ (g : Fde). g.return_register < 65536) fs f (fdes_registers target s fs are) listed;
      each = all_weaker (Held h.initial h.instrs f.begin f.end) (ChangeFits target f.end) each changes (held_all h.initial h.instrs f.begin f.end changes some h.change);
      steps = steps_all h.initial h.instrs f.begin f.end changes h.change;
    }
