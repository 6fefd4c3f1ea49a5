-- What holds of a member's program and of its CIE's, as instructions: they keep what programs have to, start as many rows as there
-- are changes, and change at the member's addresses to its rows.
use Rattle.dw_canon.proofs.Words.{◌≡◌, ℕ, zero, suc, ◌+◌, ◌<◌, ◌≤◌, Bool, true, false, cond, List, [], ◌∷◌, ◌++◌, length, map, replicate, Some, refl, sym, ap, ◌∙◌, subst, inr, arith, count_by, IsTrue, rules, AllByRecursion, length-map}
use Rattle.dw_canon.proofs.Words.{append-nil, Target, address_limit, Instr, Nop, CfaRule, RegRule, LocatedRow, cfa_after, rule_after, ProgramSpells, CieKept, FdeKept, in_cie, initial_cfa, initial_rule, onto, moves_location, row_starts}
use Rattle.dw_canon.proofs.Words.{State, begun, after, Rules, AreSpecified, rule, blank, Placed, counts_exists, instrs_of, Gives, rows_at, never_falls, AreChanges, fde_instrs, cie_instrs, RowFits, ChangesStand, MemberStands, InstrFits}
use Rattle.dw_canon.proofs.{Words.{Member, changes_of, program_bytes, factors}, Lent.{Differences.{Quiet, quiet_more, on, difference_quiet}, InstrFits.{all_more, blank_fits, nops_fit, member_fits, cie_fits, cie_allowed}}}
use Rattle.dw_canon.proofs.{Lent.Programs.{plain_rows, plain_gives, RunsTo, quiet_runs, nops_quiet, located, below_end, member_runs, row_before}, Spelled.program_spelled}
use Rattle.std.proofs.lemmas.List.Sums.{sum_by-cons}
use Rattle.dw_cfa.specs.RuleAt.{last_at, NeverFalls}
use Rattle.dw_cfa.specs.Inner.RuleAt.{CountsFrom}
use Rattle.dw_cfa.proofs.Lent.{FaultLaws.begun_stands, Forward.{Follows, Holds, after_follows, begun_follows}, KeptLaws.{fde_kept, all_in_limit}, KeptRuns.{AllInLimit, KeptFrom, kept_from}}
use Rattle.dw_section.specs.Inner.Changes.{Among, Before}
use Rattle.dw_section.proofs.Lent.ChangeLaws.{HasRow, all_found}

-- ---- instructions as items, all at one place

abbrev pub items_of : List Instr → List Placed
items_of [] = []
items_of (i ∷ instrs) = record { at = 0; instr = i } ∷ items_of instrs

items_back : (instrs : List Instr) → instrs_of (items_of instrs) ≡ instrs
items_back [] = refl
items_back (i ∷ instrs) = ap (λ (l : List Instr). i ∷ l) (items_back instrs)

module _ (limit : ℕ) (initial : Rules) (begin : ℕ) (instrs : List Instr) (rows : List LocatedRow) (runs : RunsTo limit initial instrs (on initial begin) rows) where
  gives : Gives limit initial (items_of instrs) (on initial begin) rows
  gives = search (rules, plain_gives, items_back)

  pub run_kept : AreSpecified 0 initial.registers → begin ≤ limit → AllInLimit limit instrs → FdeKept limit begin initial.cfa instrs
  run_kept listed le all =
      fde_kept limit begin initial.cfa instrs (subst (KeptFrom limit begin initial.cfa []) (items_back instrs)
      (kept_from limit begin initial (items_of instrs) [] (begun initial begin) rows (begun_stands limit begin initial listed le) (subst (AllInLimit limit) (sym (items_back instrs)) all) gives))

  pub run_falls : NeverFalls begin rows
  run_falls = never_falls limit initial (items_of instrs) (on initial begin) rows begin (omega arith) gives

  -- the last row at or below an address holds there
  pub run_has : (ci : List Instr) (end : ℕ) → AreSpecified 0 initial.registers → initial.cfa ≡ initial_cfa ci → ((r : ℕ) → rule initial r ≡ initial_rule ci r)
      → (a : ℕ) → begin ≤ a → (x : Rules) × (last_at a rows ≡ Some x) × HasRow ci instrs begin end a x
  run_has ci end listed same_cfa same_rules a le =
      let counts = counts_exists begin instrs a le in
      let so : CountsFrom begin [] instrs a counts.0 = record { in_program = counts.1.in_program; stays = counts.1.stays; greatest = counts.1.greatest } in
      let found = rows_at initial begin a limit (items_of instrs) [] (begun initial begin) counts.0 rows (begun_follows initial begin listed) le (subst (λ (l : List Instr). CountsFrom begin [] l a counts.0) (sym (items_back instrs)) so) gives in
      let holds = subst (λ (l : List Instr). Holds initial (onto [] l counts.0) 0 found.0) (items_back instrs) found.2 in (
        found.0,
        found.1,
        record {
          k = counts.0;
          counts = counts.1;
          holds = record {
            cfa = holds.cfa ∙ ap (λ (c : CfaRule). cfa_after c instrs counts.0) same_cfa;
            rules = λ r. holds.rules r ∙ ap (λ (x : RegRule). rule_after x instrs r counts.0) (same_rules r);
            listed = holds.listed;
          };
        },
      )

-- ---- how many rows

pub count_more : (i : Instr) (instrs : List Instr) (b : Bool) → moves_location i ≡ b → count_by moves_location (i ∷ instrs) ≡ cond b 1 0 + count_by moves_location instrs
count_more i instrs b e = sum_by-cons (λ (x : Instr). cond (moves_location x) 1 0) i instrs ∙ ap (λ (c : Bool). cond c 1 0 + count_by moves_location instrs) e

one_start : (b : Bool) (s : State) (rows : List LocatedRow) (n more : ℕ) → more ≡ cond b 1 0 + n → 1 + n ≡ length rows → 1 + more ≡ length (row_before b s rows)
one_start true s rows n more e h = omega arith
one_start false s rows n more e h = omega arith

plain_starts : (initial : Rules) (instrs : List Instr) (s : State) → row_starts instrs ≡ length (plain_rows initial instrs s)
plain_starts initial [] s = refl
plain_starts initial (i ∷ instrs) s = grind (arith, one_start, count_more, plain_starts initial instrs (after initial i s))

-- ---- what changes among the rows

before_next : (t : Target) (initial : Rules) (end at : ℕ) (row : Rules) (changes : List (ℕ × Rules)) → ChangesStand t initial end at row changes → Before end at (map located changes)
before_next t initial end at row [] h = h
before_next t initial end at row (change ∷ changes) h = (h.0, below_end t initial end at row (change ∷ changes) h)

among_later : (t : Target) (initial : Rules) (end at : ℕ) (row : Rules) (changes : List (ℕ × Rules)) → ChangesStand t initial end at row changes → Among end (Some row) (map located changes) changes
among_later t initial end at row [] h = refl
among_later t initial end at row (change ∷ changes) h = grind (arith, before_next, among_later t initial end change.0 change.1 changes h.3)

-- ---- the member

module _ (t : Target) (initial : Rules) (fits : RowFits t initial) (m : Member) (stands : MemberStands t initial m) (n : ℕ) where
  -- its instructions, with nops behind them
  abbrev pub member_instrs : List Instr
  member_instrs = fde_instrs initial m ++ replicate n Nop

  runs : RunsTo (address_limit t.size) initial member_instrs (on initial m.begin) (map located (changes_of m))
  runs = member_runs t (address_limit t.size) initial fits n m stands.in_space stands.first stands.later

  pub nonempty : m.begin < m.end
  nonempty = below_end t initial m.end m.begin m.first m.later stands.later

  pub member_spelled : ProgramSpells t factors member_instrs (program_bytes t member_instrs)
  member_spelled = program_spelled t member_instrs (all_more (InstrFits t) (fde_instrs initial m) (replicate n Nop) (member_fits t initial m fits stands) (nops_fit t n))

  pub member_kept : FdeKept (address_limit t.size) m.begin initial.cfa member_instrs
  member_kept = grind (arith, run_kept, runs, nonempty, all_in_limit, program_bytes, member_spelled)

  -- as many rows are started as there are changes
  pub member_starts : row_starts member_instrs ≡ length (changes_of m)
  member_starts = plain_starts initial member_instrs (on initial m.begin) ∙ ap length runs.1 ∙ length-map (changes_of m) located

  module _ (ci : List Instr) (same_cfa : initial.cfa ≡ initial_cfa ci) (same_rules : (r : ℕ) → rule initial r ≡ initial_rule ci r) where
    has : (a : ℕ) → m.begin ≤ a → (x : Rules) × (last_at a (map located (changes_of m)) ≡ Some x) × HasRow ci member_instrs m.begin m.end a x
    has = run_has (address_limit t.size) initial m.begin member_instrs (map located (changes_of m)) runs ci m.end fits.listed same_cfa same_rules

    -- its changes are those of the member
    pub member_changes : AreChanges ci member_instrs m.begin m.end (changes_of m)
    member_changes =
        all_found ci member_instrs m.begin m.end (map located (changes_of m)) (changes_of m)
        (run_falls (address_limit t.size) initial m.begin member_instrs (map located (changes_of m)) runs) has refl nonempty
        (inr ((before_next t initial m.end m.begin m.first m.later stands.later, λ same. absurd cc), (m.later, refl, among_later t initial m.end m.begin m.first m.later stands.later)))

-- ---- the CIE

quiet_follows : (initial : Rules) (begin limit : ℕ) (instrs earlier : List Instr) (s s' : State) → Follows initial begin earlier s → Quiet limit initial instrs s s' → Follows initial begin (onto earlier instrs (length instrs)) s'
quiet_follows initial begin limit [] earlier s s' h q = subst (Follows initial begin earlier) q h
quiet_follows initial begin limit (i ∷ instrs) earlier s s' h q = quiet_follows initial begin limit instrs (i ∷ earlier) (after initial i s) s' (after_follows initial begin i earlier s limit h q.1) q.2

nops_allowed : (n : ℕ) → AllByRecursion (λ i. IsTrue (in_cie i)) (replicate n Nop)
nops_allowed zero = tt
nops_allowed (suc n) = (refl, nops_allowed n)

module _ (t : Target) (initial : Rules) (fits : RowFits t initial) (n : ℕ) where
  abbrev pub initial_instrs : List Instr
  initial_instrs = cie_instrs initial ++ replicate n Nop

  cie_quiet : Quiet (address_limit t.size) blank initial_instrs (on blank 0) (on initial 0)
  cie_quiet =
      quiet_more (address_limit t.size) blank (cie_instrs initial) (replicate n Nop) (on blank 0) (on initial 0) (on initial 0)
      (difference_quiet t blank blank initial (blank_fits t) (blank_fits t) fits (address_limit t.size) 0 (λ e. refl)) (nops_quiet (address_limit t.size) blank initial 0 n)

  cie_follows : Follows blank 0 (onto [] initial_instrs (length initial_instrs)) (on initial 0)
  cie_follows = quiet_follows blank 0 (address_limit t.size) initial_instrs [] (on blank 0) (on initial 0) (begun_follows blank 0 tt) cie_quiet

  pub cie_spelled : ProgramSpells t factors initial_instrs (program_bytes t initial_instrs)
  cie_spelled = program_spelled t initial_instrs (all_more (InstrFits t) (cie_instrs initial) (replicate n Nop) (cie_fits t initial fits) (nops_fit t n))

  -- it leaves the initial row
  pub cie_cfa : initial.cfa ≡ initial_cfa initial_instrs
  cie_cfa = cie_follows.row.cfa

  pub cie_rules : (r : ℕ) → rule initial r ≡ initial_rule initial_instrs r
  cie_rules r = cie_follows.row.rules r

  pub cie_kept : CieKept initial_instrs
  cie_kept =
      let limit = address_limit t.size in
      let runs = quiet_runs limit blank initial_instrs [] (on blank 0) (on initial 0) (located (0, initial) ∷ []) cie_quiet (tt, refl) in
      let alone = subst (λ (l : List Instr). RunsTo limit blank l (on blank 0) (located (0, initial) ∷ [])) (append-nil initial_instrs) runs in
      let kept = run_kept limit blank 0 initial_instrs (located (0, initial) ∷ []) alone tt (omega arith) (all_in_limit t factors initial_instrs (program_bytes t initial_instrs) cie_spelled) in
      record { allowed = all_more (λ i. IsTrue (in_cie i)) (cie_instrs initial) (replicate n Nop) (cie_allowed initial) (nops_allowed n); halves = kept.halves }
