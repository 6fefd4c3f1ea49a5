-- The rules of an FDE that stands at a place fit, also those before a fault of its programs.
use Rattle.dw_section.proofs.Words.{◌≡◌, ℕ, Bool, true, false, List, [], ◌∷◌, length, Option, Some, None, nat_le, sym, subst, inl, inr, AllByRecursion, AllZip, Refusal, Target, Span, input_of, LocatedRow, Factors, Instr, ProgramSpells}
use Rattle.dw_section.proofs.Words.{Rules, rule, RunsTo, last_at, or_here, Outcome, CfaFits, RowFits, if◌then◌else◌, Leaves, HoldsBehind, IsRowAfter, GivesUpTo, ends, Ruled, RulesOf}
use Rattle.dw_section.proofs.Lent.Fitting.{Gives, instr_gives, program_all, Fitting, cfa_found, rule_found, entries_fit}
use Rattle.dw_row.specs.declared.rule.CfaRule.TheVariants as cfa
use Rattle.dw_row.specs.declared.rule.RegRule.TheVariants as rules

-- the initial row's rules fit
record Begins (t : Target) (initial : Rules) : Type 0 where
  cfa : CfaFits t initial.cfa
  rules : (r : ℕ) → Fitting t r (rule initial r)

module _ (t : Target) (f : Factors) where
  all_give : (instrs : List Instr) (b : List ℕ) → ProgramSpells t f instrs b → AllByRecursion (Gives t) instrs
  all_give instrs b h = program_all (Gives t) t f (instr_gives t f) instrs b h

  left_fits : (cie : Span) (instrs : List Instr) (row : Rules) → Leaves f (input_of t cie) instrs row → Begins t row
  left_fits cie instrs row h =
      let g = all_give instrs cie.bytes h.program in
      record {
        cfa = subst (CfaFits t) (sym h.cfa) (cfa_found t cfa.Unset instrs (length instrs) tt g);
        rules = λ r. subst (Fitting t r) (sym (h.rules r)) (rule_found t rules.Unspecified instrs r (length instrs) (tt, λ e. absurd cc) g);
      }

  module _ (initial : Rules) (begins : Begins t initial) (begin : ℕ) where
    behind_fits : (instrs : List Instr) (k : ℕ) (row : Rules) → AllByRecursion (Gives t) instrs → HoldsBehind initial instrs k row → RowFits t row
    behind_fits instrs k row g h = record {
      cfa = subst (CfaFits t) (sym h.cfa) (cfa_found t initial.cfa instrs k begins.cfa g);
      registers = entries_fit t 0 row.registers h.listed (λ r. subst (Fitting t r) (sym (h.rules r)) (rule_found t (rule initial r) instrs r k (begins.rules r) g));
      listed = h.listed;
    }

    each_fits : (instrs : List Instr) → AllByRecursion (Gives t) instrs → (ks : List ℕ) (rows : List LocatedRow) → AllZip (IsRowAfter initial begin instrs) ks rows → AllByRecursion (λ (row : LocatedRow). RowFits t row.row) rows
    each_fits instrs g [] [] h = tt
    each_fits instrs g (k ∷ ks) (row ∷ rows) h = (behind_fits instrs k row.row g h.0.holds, each_fits instrs g ks rows h.1)
    each_fits instrs g ks rows h = absurd h

    up_to_fits : (fde : Span) (fault : Option Refusal) (rows : List LocatedRow) → GivesUpTo f initial (input_of t fde) begin fault rows → AllByRecursion (λ (row : LocatedRow). RowFits t row.row) rows
    up_to_fits fde None rows h = each_fits h.instrs (all_give h.instrs fde.bytes h.program) (ends (0 ∷ []) h.instrs) rows h.each
    up_to_fits fde (Some r) rows h = each_fits h.instrs (elim (h.fault.1) [ inl stuck ↦ all_give h.instrs stuck.front stuck.read | inr broken ↦ all_give h.instrs broken.front broken.read ]) (ends [] h.instrs) rows h.each

  run_fits : (cie fde : Span) (begin : ℕ) (o : Outcome) → RunsTo f (input_of t cie) (input_of t fde) begin o → AllByRecursion (λ (row : LocatedRow). RowFits t row.row) o.rows
  run_fits cie fde begin o (inl h) = subst (λ (p : Outcome). AllByRecursion (λ (row : LocatedRow). RowFits t row.row) p.rows) (sym h.2) tt
  run_fits cie fde begin o (inr h) = up_to_fits h.1 (left_fits cie h.0 h.1 h.2) begin fde o.fault o.rows h.3

-- ---- the row of an address

module _ (P : Rules → Type 0) (a : ℕ) where
  tested : (first row : Rules) → P first → (b : Bool) → ◌≡◌ {A = Option Rules} (if b then Some first else None) (Some row) → P row
  tested first row p true e = let same : first ≡ row = cc in subst P same p
  tested first row p false e = absurd cc

  or_first : (first : LocatedRow) (later : Option Rules) → P first.row → ((row : Rules) → later ≡ Some row → P row) → (row : Rules) → or_here a first later ≡ Some row → P row
  or_first first (Some other) p rest row e = rest row e
  or_first first None p rest row e = tested first.row row p (nat_le first.location a) e

  last_has : (rows : List LocatedRow) → AllByRecursion (λ (row : LocatedRow). P row.row) rows → (row : Rules) → last_at a rows ≡ Some row → P row
  last_has [] h row e = absurd cc
  last_has (first ∷ rows) h row e = or_first first (last_at a rows) h.0 (last_has rows h.1) row e

-- the rules at an address by the FDE that stands at a place
pub standing_fits : (t : Target) (s : List ℕ) (at a : ℕ) (found : Ruled) → RulesOf t s at a found → RowFits t found.row
standing_fits t s at a found h = last_has (RowFits t) a h.outcome.rows (run_fits t _ h.named.program h.own.program h.own.begin h.outcome h.runs) found.row h.row
