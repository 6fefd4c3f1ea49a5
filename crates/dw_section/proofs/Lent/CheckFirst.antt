-- A section is accepted, or has one first fault, and not both.
use Rattle.dw_section.proofs.Words.{◌≡◌, ℕ, ◌≤◌, List, [], ◌∷◌, ◌++◌, sym, ap, subst, ◌∙◌, arith, inl, inr, AllByRecursion, Overlap, Refusal, Target, AreBytes, Span, input_of, Factors, Instr, ProgramSpells, initial_cfa, Head, cie, fde}
use Rattle.dw_section.proofs.Words.{Headers, Ok, Err, HeadersFault, HeadsRise, FdeFits, HasBytes, cie_ats, Range, IsIndex, AreApart, FirstOverlap, end_of, IsAmong, Instrs, CieRuns, CieBroken, FdeRuns, FdeBroken, HasRules, LacksRule}
use Rattle.dw_section.proofs.Words.{factors_of, RulesHold, Accepted, CieProgramsFault, FdeProgramsFault, RulesFault, CheckFault, CiesRun, FdesRun, Indexed, Some, None, CieHead, FdeHead, InitialInstrs, some_is, behind_where_fault}
use Rattle.dw_section.proofs.Words.{gives_where_kept, leaves_where_kept, one_behind, one_initial, zero, suc, ◌+◌, ◌<◌, ◌⊎◌, true, refl, append_assoc, append-nil, Option, Result, cases_lt, eqb_tells, NoCfaRule, CfaRule, Unset, Rules}
use Rattle.dw_section.proofs.{Words.{Outcome, cfa_after, counts_exists, one_count, address_limit, is_among, HasCfa, nonempty, Precedes, Ascends, PlacesRise, Input, IsPermutation, IsPermutation-refl, IsPermutation-sym, LeavesTo, RunsBehind, CieKept, LacksCfa, ◌-◌}, Lent.Heads.one_program}
use Rattle.std.proofs.lemmas.List.Sorted.{IsPermutation-cons, IsPermutation-insert, IsPermutation-trans}
use Rattle.dw_section.proofs.{Lent.Heads.{heads_rise, heads_bytes, heads_fit, one_begin}, Lent.HeaderLaws.one_headers, Lent.Index.{all_in, one_index}, Stages.{holds_at, splits, all_weaker, Judges, Stage, answered, next_items}}
use Rattle.dw_section.proofs.{Stages.next_stage, Ordered.{all_permuted, apart_more, members}, Places.all_above, Tables.nonempty_rise, FirstFault.headers_stage}

-- a row of this rule alone
abbrev row_of : CfaRule → Rules
row_of cfa = record { cfa = cfa; registers = [] }

-- what is known of a header, for the stages of programs
abbrev pub Known : Target → List Head → Head → Type 0
Known target hs h = HasBytes h × FdeFits target (cie_ats hs) h

-- ---- programs of CIEs

left_or_fault : (f : Factors) (i : Input) (x : Result Rules Refusal) → LeavesTo f i x → ((instrs : List Instr) × ProgramSpells i.target f instrs i.bytes × CieKept instrs) ⊎ ((r : Refusal) × LeavesTo f i (Err r))
left_or_fault f i (Ok row) left = let leaves = left.1 in inl (left.0, leaves.program, leaves.kept)
left_or_fault f i (Err r) fault = inr (r, fault)

cie_judged : {Given : Type 0} (target : Target) (h : Head) → HasBytes h → Judges Given (CieRuns target h) (CieBroken target h)
cie_judged target (fde f) b = record { apart = λ r runs broken. broken; one = λ r q v w. absurd v; some = λ given. inl tt }
cie_judged target (cie c) b =
    let i = input_of target c.program in
    let x = one_initial (factors_of c) i b in
    record {
      apart = λ r runs broken. let left = leaves_where_kept (factors_of c) i runs.0 b runs.1 runs.2 in let e = x.2 (Ok left.0) (runs.0, left.1) ∙ sym (x.2 (Err r) broken) in cc;
      one = λ r q v w. let e = x.2 (Err r) v ∙ sym (x.2 (Err q) w) in cc;
      some = λ given. left_or_fault (factors_of c) i x.0 x.1;
    }

-- ---- programs of FDEs

-- a CIE stands at a place
named : (place : ℕ) (hs : List Head) → is_among place (cie_ats hs) ≡ true → (c : CieHead) × IsAmong (cie c) hs × (c.at ≡ place)
named place [] e = absurd cc
named place (fde f ∷ hs) e = let n = named place hs e in (n.0, inr n.1, n.2)
named place (cie c ∷ hs) e = elim (eqb_tells c.at place) [
  | inl is ↦ (c, inl refl, is.1)
  | inr not ↦ let rest : is_among place (cie_ats hs) ≡ true = rw (not.0) at e in let n = named place hs rest in (n.0, inr n.1, n.2)
]

module _ (target : Target) (hs : List Head) (up : HeadsRise 0 hs) (all : AllByRecursion HasBytes hs) where
  -- the instructions of an FDE and of its CIE are one
  pub one_instrs : (place : ℕ) (program : Span) (initial instrs another others : List Instr) → AreBytes program.bytes → Instrs target hs place program initial instrs → Instrs target hs place program another others
      → (initial ≡ another) × (instrs ≡ others)
  one_instrs place program initial instrs another others b v w =
      let same = one_begin target hs place v.head w.head initial another up all v.begins w.begins in
      (same.instrs, one_program (factors_of w.head) target program.bytes instrs others b (subst (λ (f : Factors). ProgramSpells target f instrs program.bytes) same.factors v.spelled) w.spelled)

  -- behind the row of its CIE an FDE's program has one outcome, which has the fault with which it is broken
  module _ (d : FdeHead) (known : Known target hs (fde d)) (c : CieHead) (initial : List Instr) (begins : InitialInstrs target hs d.cie_at c initial) where
    abbrev first : Rules
    first = row_of (initial_cfa initial)

    abbrev Ends : Outcome → Type 0
    Ends o = RunsBehind (factors_of c) first (input_of target d.program) d.begin o

    in_space : d.begin ≤ address_limit target.size
    in_space = omega (arith, known.1.0)

    broken_so : (o : Outcome) → Ends o → (r : Refusal) → FdeBroken target hs (fde d) r → o.fault ≡ Some r
    broken_so o ends r broken =
        let same = one_begin target hs d.cie_at c broken.0 initial broken.1 up all begins broken.2 in
        (behind_where_fault (factors_of c) first (input_of target d.program) d.begin known.0 tt in_space o ends r).1 (rw (same.factors, same.instrs) (broken.3))

    ran : (o : Outcome) (fault : Option Refusal) → o.fault ≡ fault → Ends o → FdeRuns target hs (fde d) ⊎ ((r : Refusal) × FdeBroken target hs (fde d) r)
    ran o None e ends = let given = rw e at ends in inl (initial, given.instrs, record { head = c; begins = begins; spelled = given.program }, given.kept)
    ran o (Some r) e ends = inr (r, (c, initial, begins, (behind_where_fault (factors_of c) first (input_of target d.program) d.begin known.0 tt in_space o ends r).0 e))

    outcome : (o : Outcome) × Ends o
    outcome = let o = one_behind (factors_of c) first (input_of target d.program) d.begin known.0 tt in_space in (o.0, o.1)

  fde_judged : {Given : Type 0} → AllByRecursion (CieRuns target) hs → (h : Head) → Known target hs h → Judges Given (FdeRuns target hs h) (FdeBroken target hs h)
  fde_judged run (cie c) known = record { apart = λ r runs broken. broken; one = λ r q v w. absurd v; some = λ given. inl tt }
  fde_judged run (fde d) known = record {
    apart = λ r runs broken.
        let is = runs.2 in
        let given = gives_where_kept (factors_of is.head) (row_of (initial_cfa runs.0)) (input_of target d.program) d.begin known.0 tt (omega (arith, known.1.0)) runs.1 is.spelled runs.3 in
        let bad = broken_so d known is.head runs.0 is.begins (record { rows = given.0; fault = None }) given.1 r broken in cc;
    one = λ r q v w. let o = outcome d known v.0 v.1 v.2 in some_is r q (sym (broken_so d known v.0 v.1 v.2 o.0 o.1 r v) ∙ broken_so d known v.0 v.1 v.2 o.0 o.1 q w);
    some = λ given.
        let n = named d.cie_at hs known.1.2 in
        let runs = all_in (CieRuns target) hs (cie n.0) run n.1 in
        let begins : InitialInstrs target hs d.cie_at n.0 runs.0 = record { among = n.1; stands = n.2; spelled = runs.1 } in
        let o = outcome d known n.0 runs.0 begins in
        ran d known n.0 runs.0 begins o.0 o.0.fault refl o.1;
  }

-- ---- the CFA

unset_or : (rule : CfaRule) → (rule ≡ Unset) ⊎ (rule ≡ Unset → ⊥)
unset_or Unset = inl refl
unset_or other = inr (λ e. absurd cc)

module _ (initial instrs : List Instr) (begin : ℕ) where
  has_or_lacks : (a : ℕ) → begin ≤ a → HasCfa initial instrs begin a ⊎ LacksCfa initial instrs begin a
  has_or_lacks a le =
      let k = counts_exists begin instrs a le in
      elim (unset_or (cfa_after (initial_cfa initial) instrs k.0)) [
        | inl unset ↦ inr (k.0, k.1, unset)
        | inr set ↦ inl (λ j counts unset. set (subst (λ (n : ℕ). cfa_after (initial_cfa initial) instrs n ≡ Unset) (one_count begin instrs a j k.0 counts k.1) unset))
      ]

  -- the CFA has a rule at each of so many addresses, or has none at one of them
  all_have : (n : ℕ) → ((k : ℕ) → k < n → HasCfa initial instrs begin (begin + k)) ⊎ ((k : ℕ) × (k < n) × LacksCfa initial instrs begin (begin + k))
  all_have zero = inl (λ k lt. absurd (omega arith))
  all_have (suc n) = elim (all_have n) [
    | inr w ↦ inr (w.0, omega (arith, w.1), w.2)
    | inl all ↦ elim (has_or_lacks (begin + n) (omega arith)) [
      | inl last ↦ inl (λ k lt. elim (cases_lt k n) [ inl below ↦ all k below | inr ge ↦ let is : n ≡ k = omega (arith, ge, lt) in subst (λ (m : ℕ). HasCfa initial instrs begin (begin + m)) is last ])
      | inr lacks ↦ inr (n, omega arith, lacks)
    ]
  ]

rule_judged : {Given : Type 0} (target : Target) (hs : List Head) → HeadsRise 0 hs → AllByRecursion HasBytes hs → (h : Head) → HasBytes h → FdeRuns target hs h → Judges Given (HasRules target hs h) (LacksRule target hs h)
rule_judged target hs up all (cie c) b runs = record { apart = λ r has lacks. lacks; one = λ r q v w. absurd v; some = λ given. inl tt }
rule_judged target hs up all (fde f) b runs = record {
  apart = λ r has lacks.
      let l = lacks.1 in
      let same = one_instrs target hs up all f.cie_at f.program l.0 l.1 has.0 has.1 b l.2 has.2 in
      let gap = l.3.3 in
      has.3 l.3.0 l.3.1 l.3.2 gap.0 (rw same.1 at gap.1) (rw (same.0, same.1) at gap.2);
  one = λ r q v w. v.0 ∙ sym w.0;
  some = λ given. elim (all_have runs.0 runs.1 f.begin f.range) [
    | inl all ↦ inl (runs.0, runs.1, runs.2, λ a le lt. let is : f.begin + (a - f.begin) ≡ a = omega (arith, le) in subst (HasCfa runs.0 runs.1 f.begin) is (all (a - f.begin) (omega (arith, le, lt))))
    | inr w ↦ inr (record { code = NoCfaRule; at = f.at }, (refl, (runs.0, runs.1, runs.2, (f.begin + w.0, omega arith, omega (arith, w.1), w.2))))
  ];
}

-- ---- the order

-- ranges in order
abbrev Ordered : List Range → Type 0
Ordered rs = (list : List Range) × Ascends list × IsPermutation rs list

-- one that stands before all others in the section is put among them
inserted : (a : Range) (rs : List Range) → Ascends rs → AllByRecursion (λ b. a.at < b.at) rs → Ordered (a ∷ rs)
inserted a [] up later = (a ∷ [], (tt, tt), IsPermutation-refl (a ∷ []))
inserted a (b ∷ rs) up later = elim (cases_lt b.begin a.begin) [
  | inr first ↦
      let before : Precedes a b = grind (arith, first, later.0) in
      (a ∷ b ∷ rs, ((before, all_weaker (Precedes b) (Precedes a) (λ x behind. grind (arith, before, behind)) rs up.0), up), IsPermutation-refl (a ∷ b ∷ rs))
  | inl second ↦
      let rest = inserted a rs up.1 later.1 in
      let same = IsPermutation-trans (a ∷ b ∷ rs) (b ∷ a ∷ rs) (b ∷ rest.0) (IsPermutation-insert (b ∷ rs) 1 a) (IsPermutation-cons b (a ∷ rs) rest.0 rest.2) in
      (b ∷ rest.0, (all_permuted (Precedes b) (a ∷ rs) rest.0 rest.2 (inl second, up.0), rest.1), same)
]

ordered : (low : ℕ) (rs : List Range) → PlacesRise low rs → Ordered rs
ordered low [] up = ([], tt, IsPermutation-refl [])
ordered low (a ∷ rs) up =
    let rest = ordered (suc a.at) rs up.1 in
    let later = all_permuted (λ (b : Range). a.at < b.at) rs rest.0 rest.2 (all_above (λ (b : Range). b.at) (suc a.at) rs up.1) in
    let all = inserted a rest.0 rest.1 later in
    (all.0, all.1, IsPermutation-trans (a ∷ rs) (a ∷ rest.0) all.0 (IsPermutation-cons a rs rest.0 rest.2) all.2)

index_of : (hs : List Head) → HeadsRise 0 hs → (index : List Range) × IsIndex hs index
index_of hs up =
    let rs = nonempty hs in
    let o = ordered 0 rs (nonempty_rise 0 hs up) in
    (o.0, record { ascends = o.1; from = all_permuted (λ a. IsAmong a rs) rs o.0 o.2 (members rs); all = all_permuted (λ a. IsAmong a o.0) o.0 rs (IsPermutation-sym rs o.0 o.2) (members o.0) })

-- ---- overlaps

apart_at : (before : List Range) (it : Range) (after : List Range) (other : Range) → AreApart (before ++ it ∷ after) → IsAmong other before → end_of other ≤ it.begin
apart_at [] it after other h i = absurd i
apart_at (b ∷ before) it after other h i = grind (arith, i, holds_at (λ (x : Range). end_of b ≤ x.begin) before it after h.0, apart_at before it after other h.1)

overlap_one : (index : List Range) (r q : Refusal) → FirstOverlap index r → FirstOverlap index q → r ≡ q
overlap_one index r q v w = elim (splits v.before w.before v.it w.it v.after w.after (sym v.whole ∙ w.whole)) [
  | inl same ↦ v.is ∙ ap (λ (x : Range). let y : Refusal = record { code = Overlap; at = x.at } in y) same ∙ sym w.is
  | inr (inl p) ↦ let q = apart_at v.before v.it p.0 v.other (subst AreApart p.1 w.apart) v.other_in in absurd (omega (arith, q, v.meets))
  | inr (inr p) ↦ let q = apart_at w.before w.it p.0 w.other (subst AreApart p.1 v.apart) w.other_in in absurd (omega (arith, q, w.meets))
]

none_or_meets : (it : Range) (before : List Range) → AllByRecursion (λ a. end_of a ≤ it.begin) before ⊎ ((other : Range) × IsAmong other before × (it.begin < end_of other))
none_or_meets it [] = inl tt
none_or_meets it (a ∷ before) = elim (cases_lt it.begin (end_of a)) [
  | inl lt ↦ inr (a, inl refl, lt)
  | inr ge ↦ elim (none_or_meets it before) [ inl none ↦ inl (ge, none) | inr m ↦ inr (m.0, inr m.1, m.2) ]
]

apart_or_overlap : (index before after : List Range) → index ≡ before ++ after → AreApart before → AreApart index ⊎ ((r : Refusal) × FirstOverlap index r)
apart_or_overlap index before [] whole apart = inl (subst AreApart (sym (append-nil before) ∙ sym whole) apart)
apart_or_overlap index before (it ∷ after) whole apart = elim (none_or_meets it before) [
  | inl none ↦ apart_or_overlap index (before ++ it ∷ []) after (whole ∙ sym (append_assoc before (it ∷ []) after)) (apart_more before it it.begin apart none (omega arith))
  | inr m ↦ inr (record { code = Overlap; at = it.at }, record { before = before; it = it; after = after; whole = whole; apart = apart; other = m.0; other_in = m.1; meets = m.2; is = refl })
]

-- ---- the stages

module _ (target : Target) (s : List ℕ) (b : AreBytes s) where
  known : (hs : List Head) → Headers target s hs → (h : Head) → IsAmong h hs → Known target hs h
  known hs p h i = (all_in HasBytes hs h (heads_bytes target s hs b p) i, all_in (FdeFits target (cie_ats hs)) hs h (heads_fit target s hs p) i)

  cies : Stage (AreBytes s) (CiesRun target s) (CieProgramsFault target s)
  cies = next_items (HeadersFault target s) (Headers target s) (headers_stage target s) (λ hs. CieRuns target) (λ hs. CieBroken target) (λ hs p h i. cie_judged target h (known hs p h i).0)

  fdes : Stage (AreBytes s) (FdesRun target s) (FdeProgramsFault target s)
  fdes = next_items (CieProgramsFault target s) (CiesRun target s) cies (FdeRuns target) (FdeBroken target)
      (λ hs p h i. fde_judged target hs (heads_rise target s hs p.0) (heads_bytes target s hs b p.0) p.1 h (known hs p.0 h i))

  all_rules : Stage (AreBytes s) (RulesHold target s) (RulesFault target s)
  all_rules = next_items (FdeProgramsFault target s) (FdesRun target s) fdes (HasRules target) (LacksRule target)
      (λ hs p h i. rule_judged target hs (heads_rise target s hs p.0.0) (heads_bytes target s hs b p.0.0) h (known hs p.0.0 h i).0 (all_in (FdeRuns target hs) hs h p.1 i))

  one_indexed : (index other : List Range) → Indexed target s index → Indexed target s other → index ≡ other
  one_indexed index other v w =
      let same = one_headers target s w.0 v.0 w.1.0.0.0 v.1.0.0.0 in
      one_index v.0 index other v.2 (subst (λ (hs : List Head). IsIndex hs other) same w.2)

  indexed : Stage (AreBytes s) (Indexed target s) (RulesFault target s)
  indexed = answered (RulesHold target s) (Indexed target s) all_rules (λ hs hold. let o = index_of hs (heads_rise target s hs hold.0.0.0) in (o.0, (hs, hold, o.1))) (λ index is. (is.0, is.1)) one_indexed

  pub check_stage : Stage (AreBytes s) (λ index. Indexed target s index × AreApart index) (CheckFault target s)
  check_stage = next_stage (RulesFault target s) (Indexed target s) indexed AreApart FirstOverlap
      (λ index is. record { apart = λ r h w. let p = apart_at w.before w.it w.after w.other (subst AreApart w.whole h) w.other_in in omega (arith, p, w.meets); one = overlap_one index; some = λ given. apart_or_overlap index [] index refl tt })

  -- a section that is accepted has no first fault
  pub fault_or_accepted : (r : Refusal) → CheckFault target s r → Accepted target s → ⊥
  fault_or_accepted r fault v = check_stage.apart r v.0 fault (v.1, v.2)
