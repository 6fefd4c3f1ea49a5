-- The changes of an FDE that stands in bytes, by the rows that its programs give.
use Rattle.dw_section.proofs.Words.{◌≡◌, ◌<◌, ◌≤◌, ◌+◌, ◌∙◌, ℕ, List, Option, Some, None, refl, ap, subst, sym, inl, inr, arith, AreBytes, CfaRule, ChangesOf, FdeKept, FoundFde, FoundStands, Head, IfSome, Input, IsFound, IsWithin}
use Rattle.dw_section.proofs.Words.{Outcome, Refusal, Rules, RulesHold, RunsSo, Stepping, Target, address_limit, changes_among, entry_head, fde_of, initial_head, input_of, one_run, refused_where_fault, rules_behind, span_of}
use Rattle.dw_section.proofs.{ChangesAmong.are_among, Lent.ChangeLaws.{Given, changes_found}, RowLookup.runs_so, StandFaults.programs_within, StandLaws.stands_in_space}
use Rattle.dw_num.specs.declared.error.ReadError.TheVariants as reading
use Rattle.dw_cfa.specs.Behind.{GivesUpTo}
use Rattle.dw_section.specs.{StandingChanges.{StandingChanges, WholeProgramsFault}, Inner.Changes.fault_of}

-- before the first call no error was answered
pub unanswered : (x : Stepping) → x.error ≡ None → fault_of x ≡ x.outcome.fault
unanswered x e = rw e refl

module _ (target : Target) (s : List ℕ) (e : FoundFde) (stands : FoundStands target s e) (cb : AreBytes (span_of e.cie.program).bytes) (fb : AreBytes (span_of e.own.program).bytes) where
  abbrev cie : Input
  cie = input_of target (span_of e.cie.program)

  abbrev fde : Input
  fde = input_of target (span_of e.own.program)

  in_space : e.own.begin ≤ address_limit target.size
  in_space = omega (arith, stands_in_space target s e stands)

  module _ (o : Outcome) (runs : RunsSo target e o) where
    one : (p : Outcome) → RunsSo target e p → p ≡ o
    one p to = let only = (one_run e.cie.factors cie fde e.own.begin cb fb in_space).2 in only p to ∙ sym (only o runs)

    abbrev changes : List (ℕ × Rules)
    changes = changes_among (e.own.begin + e.own.range) None o.rows

    -- programs without a fault give the FDE's changes
    stand_by : RunsSo target e o → 0 < e.own.range → o.fault ≡ None → StandingChanges target s e.own.at (fde_of e) changes
    stand_by (inl (r, fault, is)) some none = let bad : Some r ≡ None = sym (ap (λ (p : Outcome). p.fault) is) ∙ none in absurd cc
    stand_by (inr (initial, first, leaves, behind)) some none =
        let f = e.cie.factors in
        let named = initial_head e.cie in
        let own = entry_head e.own in
        let ruled = rules_behind f first fde e.own.begin o fb leaves.listed in_space behind none in
        let given : Given target named own initial ruled.0 = record {
          first = first;
          rows = o.rows;
          run = (initial, first, leaves, subst (λ (x : Option Refusal). GivesUpTo f first fde e.own.begin x o.rows) none behind);
          leaves = leaves;
          gives = ruled.1;
        } in
        record {
          own = own;
          named = named;
          stands = stands;
          place = refl;
          begin = refl;
          end = refl;
          return_register = refl;
          initial = initial;
          instrs = ruled.0;
          cie_spelled = leaves.program;
          spelled = ruled.1.program;
          cie_kept = leaves.kept;
          kept = subst (λ (x : CfaRule). FdeKept (address_limit target.size) e.own.begin x ruled.0) leaves.cfa ruled.1.kept;
          change = changes_found target named own initial ruled.0 (e.own.begin + e.own.range) given changes (omega (arith, some)) (are_among (e.own.begin + e.own.range) None o.rows);
        }

    pub changes_stand : 0 < e.own.range → o.fault ≡ None → StandingChanges target s e.own.at (fde_of e) changes
    changes_stand = stand_by runs

    -- of a section whose rules hold they have none, and the changes are those that it says
    pub changes_own : AreBytes s → (hs : List Head) → RulesHold target s hs → IsFound hs e → 0 < e.own.range → (o.fault ≡ None) × ChangesOf target s (fde_of e) changes
    changes_own bytes hs hold found some =
        let all = runs_so target s hs hold e found bytes in
        let same = one (record { rows = all.rows; fault = None }) (inr all.give) in
        (ap (λ (p : Outcome). p.fault) (sym same), subst (λ (p : Outcome). ChangesOf target s (fde_of e) (changes_among (e.own.begin + e.own.range) None p.rows)) same (all.changes some))

    -- a fault is the first one of both programs
    pub whole_fault : (a : ℕ) → e.own.begin ≤ a → a < e.own.begin + e.own.range → (r : Refusal) → o.fault ≡ Some r → WholeProgramsFault target s e.own.at a r
    whole_fault a le lt r is = (entry_head e.own, initial_head e.cie, stands, refl, le, lt, (refused_where_fault e.cie.factors cie fde e.own.begin cb fb in_space o runs r).0 is)

    fault_there : (x : Option Refusal) → o.fault ≡ x → IfSome x (IsWithin s)
    fault_there None is = tt
    fault_there (Some r) is = programs_within target s e stands cb fb in_space (reading.Refused r) (λ p to. ap (λ (q : Outcome). q.fault) (one p to) ∙ is)

    pub fault_within : IfSome o.fault (IsWithin s)
    fault_within = fault_there o.fault refl
