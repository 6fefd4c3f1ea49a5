-- What changes among the rows of an FDE are the changes of the FDE.
use Rattle.dw_section.proofs.Words.{◌≡◌, ℕ, suc, ◌-◌, ◌<◌, ◌≤◌, List, [], ◌∷◌, Option, Some, None, refl, sym, ap, subst, ◌∙◌, arith, inl, inr, cases_lt, le-leb, lt-leb, Instr, CfaRule, RegRule, RulesBehind, cfa_after, rule_after}
use Rattle.dw_section.proofs.Words.{LocatedRow, Counts, HoldsAfter, Rules, last_at, NeverFalls, StayFrom, HoldsAt, ChangesBehind, AreChanges, Before, Among, Target, input_of, CieHead, FdeHead, factors_of, or_here, one_count, counts_exists}
use Rattle.dw_section.proofs.Words.{same_rows, Passed, Gives, Leaves}

-- ---- the last row at an address

found_here : (a : ℕ) (first : LocatedRow) (rest : Option Rules) → first.location ≤ a → (x : Rules) × (or_here a first rest ≡ Some x)
found_here a first (Some row) le = (row, refl)
found_here a first None le = (first.row, rw (le-leb first.location a le) refl)

module _ (initial instrs : List Instr) (begin end : ℕ) where
  -- the row has the rules at an address
  pub record HasRow (a : ℕ) (row : Rules) : Type 0 where
    pub k : ℕ
    pub counts : Counts begin instrs a k
    pub holds : HoldsAfter initial instrs k row

  pub holds_at : (a : ℕ) (row : Rules) → HasRow a row → HoldsAt initial instrs begin a row
  holds_at a row h k counts = subst (λ (n : ℕ). HoldsAfter initial instrs n row) (one_count begin instrs a h.k k h.counts counts) h.holds

  -- from the first of the rows on, the last at or below an address has its rules
  abbrev pub Hold : List LocatedRow → Type 0
  Hold [] = Unit {0}
  Hold (row ∷ rows) = (a : ℕ) → row.location ≤ a → (x : Rules) × (last_at a (row ∷ rows) ≡ Some x) × HasRow a x

  hold_more : (row : LocatedRow) (rows : List LocatedRow) → NeverFalls row.location rows → Hold (row ∷ rows) → Hold rows
  hold_more row [] falls h = tt
  hold_more row (next ∷ rows) falls h = λ a le.
      let here = h a (omega (arith, le, falls.0)) in
      let later = found_here a next (last_at a rows) le in
      (here.0, later.1 ∙ sym (ap (or_here a row) later.1) ∙ here.1, here.2)

  -- what comes before a row comes before those that follow it
  before_more : (a : ℕ) (row : LocatedRow) (rows : List LocatedRow) → NeverFalls row.location rows → a < row.location → a < end → Before end a rows
  before_more a row [] falls lt within = within
  before_more a row (next ∷ rows) falls lt within = (omega (arith, falls.0), within)

  before_end : (a : ℕ) (rows : List LocatedRow) → Before end a rows → a < end
  before_end a [] h = h
  before_end a (next ∷ rows) h = h.1

  -- none of the rows is there before the first of them
  none_before : (a low : ℕ) (rows : List LocatedRow) → NeverFalls low rows → Before end a rows → last_at a rows ≡ None
  none_before a low [] falls before = refl
  none_before a low (next ∷ rows) falls before = rw (none_before a next.location rows falls.1 (before_more a next rows falls.1 before.0 before.1), lt-leb next.location a before.0) refl

  -- and the first of them is there up to the next
  hold_first : (row : LocatedRow) (rows : List LocatedRow) → NeverFalls row.location rows → Hold (row ∷ rows) → (a : ℕ) → row.location ≤ a → Before end a rows → HasRow a row.row
  hold_first row rows falls h a le before =
      let here = h a le in
      let same : Some row.row ≡ Some here.0 = sym (rw (none_before a row.location rows falls before, le-leb row.location a le) refl) ∙ here.1 in
      let is : here.0 ≡ row.row = cc in
      subst (HasRow a) is here.2

  stay_from : (low high : ℕ) (shown : Rules) → ((a : ℕ) → low ≤ a → a < high → HasRow a shown) → StayFrom initial instrs begin low high
  stay_from low high shown h a le lt j k cj ck =
      let x = holds_at a shown (h a le (omega arith)) j cj in
      let y = holds_at (suc a) shown (h (suc a) (omega arith) lt) k ck in
      record { cfa = sym x.cfa ∙ y.cfa; rules = λ r. sym (x.rules r) ∙ y.rules r }

  before_down : (a b : ℕ) (rows : List LocatedRow) → b ≤ a → Before end a rows → Before end b rows
  before_down a b [] le h = omega (arith, h)
  before_down a b (next ∷ rows) le h = (omega (arith, h.0), omega (arith, h.1))

  -- a row that is passed leaves what was shown
  passes : (row : LocatedRow) (rows : List LocatedRow) (s : ℕ) (shown : Rules) → NeverFalls row.location rows → Hold (row ∷ rows) → Passed end (Some shown) row rows
      → ((a : ℕ) → s ≤ a → Before end a (row ∷ rows) → HasRow a shown) → (a : ℕ) → s ≤ a → Before end a rows → HasRow a shown
  passes row rows s shown falls h passed held a le before = elim (cases_lt a row.location) [
    | inl lt ↦ held a le (lt, before_end a rows before)
    | inr ge ↦ elim passed [
      | inl hidden ↦ absurd (hidden (before_down a row.location rows ge before))
      | inr same ↦ let is : row.row ≡ shown = cc in subst (HasRow a) is (hold_first row rows falls h a ge before)
    ]
  ]

  -- the changes behind an address from which on a row was shown
  found : (rows : List LocatedRow) (low s : ℕ) (shown : Rules) (changes : List (ℕ × Rules)) → NeverFalls low rows → Hold rows → Before end s rows
      → ((a : ℕ) → s ≤ a → Before end a rows → HasRow a shown) → Among end (Some shown) rows changes → ChangesBehind initial instrs begin end s changes
  found [] low s shown changes falls h before held is = subst (ChangesBehind initial instrs begin end s) (sym is) (stay_from s end shown held)
  found (row ∷ rows) low s shown changes falls h before held (inl (passed, rest)) =
      found rows row.location s shown changes falls.1 (hold_more row rows falls.1 h) (before_more s row rows falls.1 before.0 before.1) (passes row rows s shown falls.1 h passed held) rest
  found (row ∷ rows) low s shown changes falls h before held (inr (shows, (more, is, rest))) =
      let a = row.location - 1 in
      let at : row.location ≡ suc a = omega (arith, before.0) in
      let here : HasRow row.location row.row = hold_first row rows falls.1 h row.location (omega arith) shows.0 in
      let within = before_end row.location rows shows.0 in
      let was : HasRow a shown = held a (omega (arith, before.0, at)) (omega (arith, at), omega (arith, at, within)) in
      let next = subst (λ (n : ℕ). HasRow n row.row) at here in
      let behind = found rows row.location row.location row.row more falls.1 (hold_more row rows falls.1 h) shows.0 (λ b le lt. hold_first row rows falls.1 h b le lt) rest in
      subst (ChangesBehind initial instrs begin end s) (sym is) (
        a,
        at,
        omega (arith, before.0, at),
        omega (arith, within, at),
        stay_from s (suc a) shown (λ b le lt. held b le (omega (arith, lt, at), omega (arith, lt, at, within))),
        record {
          j = was.k;
          k = next.k;
          before = was.counts;
          after = next.counts;
          other = λ same. shows.1 (ap Some (same_rows shown row.row was.holds.listed next.holds.listed (was.holds.cfa ∙ same.cfa ∙ sym next.holds.cfa) (λ r. was.holds.rules r ∙ same.rules r ∙ sym (next.holds.rules r))));
        },
        holds_at (suc a) row.row next,
        subst (λ (n : ℕ). ChangesBehind initial instrs begin end n more) at behind,
      )

  -- the first of the rows starts at the begin
  abbrev pub StartsAt : List LocatedRow → Type 0
  StartsAt [] = ⊥
  StartsAt (row ∷ rows) = row.location ≡ begin

  -- rows of no length come first
  still_starts : (rows : List LocatedRow) → begin < end → NeverFalls begin rows → (Before end begin rows → ⊥) → StartsAt rows
  still_starts [] nonempty falls hidden = absurd (hidden nonempty)
  still_starts (next ∷ rows) nonempty falls hidden = elim (cases_lt begin next.location) [
    | inl lt ↦ absurd (hidden (lt, nonempty))
    | inr le ↦ omega (arith, falls.0)
  ]

  pub all_found : (rows : List LocatedRow) (changes : List (ℕ × Rules)) → NeverFalls begin rows → Hold rows → StartsAt rows → begin < end → Among end None rows changes → AreChanges initial instrs begin end changes
  all_found [] changes falls h starts nonempty is = absurd starts
  all_found (row ∷ rows) changes falls h starts nonempty (inl (inl hidden, rest)) =
      let after : NeverFalls begin rows = subst (λ (n : ℕ). NeverFalls n rows) starts falls.1 in
      let starts_more = still_starts rows nonempty after (subst (λ (n : ℕ). Before end n rows → ⊥) starts hidden) in
      all_found rows changes after (hold_more row rows falls.1 h) starts_more nonempty rest
  all_found (row ∷ rows) changes falls h starts nonempty (inl (inr none, rest)) = absurd cc
  all_found (row ∷ rows) changes falls h starts nonempty (inr (shows, (more, is, rest))) =
      let here : HasRow row.location row.row = hold_first row rows falls.1 h row.location (omega arith) shows.0 in
      let behind = found rows row.location row.location row.row more falls.1 (hold_more row rows falls.1 h) shows.0 (λ b le lt. hold_first row rows falls.1 h b le lt) rest in
      subst (AreChanges initial instrs begin end) (sym is) (
        starts,
        holds_at begin row.row (subst (λ (n : ℕ). HasRow n row.row) starts here),
        subst (λ (n : ℕ). ChangesBehind initial instrs begin end n more) starts behind,
      )

  hold_all : (rows : List LocatedRow) → NeverFalls begin rows → ((a : ℕ) → begin ≤ a → (x : Rules) × (last_at a rows ≡ Some x) × HasRow a x) → Hold rows
  hold_all [] falls h = tt
  hold_all (row ∷ rows) falls h = λ a le. h a (omega (arith, le, falls.0))

-- ---- the rows of an FDE's program

-- what the programs of an FDE and of its CIE give
pub record Given (target : Target) (c : CieHead) (h : FdeHead) (initial instrs : List Instr) : Type 0 where
  pub first : Rules
  pub rows : List LocatedRow
  pub run : Gives (factors_of c) (input_of target c.program) (input_of target h.program) h.begin rows
  pub leaves : Leaves (factors_of c) (input_of target c.program) initial first
  pub gives : RulesBehind (factors_of c) first (input_of target h.program) h.begin instrs rows

module _ (target : Target) (c : CieHead) (h : FdeHead) (initial instrs : List Instr) (end : ℕ) (g : Given target c h initial instrs) where
  -- the last row at or below an address has the rules there
  pub row_there : (a : ℕ) → h.begin ≤ a → (x : Rules) × (last_at a g.rows ≡ Some x) × HasRow initial instrs h.begin end a x
  row_there a le =
      let counts = counts_exists h.begin instrs a le in
      let row = g.gives.holds a counts.0 le counts.1 in
      let behind = row.2 in
      let holds : HoldsAfter initial instrs counts.0 row.0 = record {
        cfa = behind.cfa ∙ ap (λ (x : CfaRule). cfa_after x instrs counts.0) g.leaves.cfa;
        rules = λ r. behind.rules r ∙ ap (λ (x : RegRule). rule_after x instrs r counts.0) (g.leaves.rules r);
        listed = behind.listed;
      } in
      (row.0, row.1, record { k = counts.0; counts = counts.1; holds = holds })

  pub changes_found : (changes : List (ℕ × Rules)) → h.begin < end → Among end None g.rows changes → AreChanges initial instrs h.begin end changes
  changes_found changes nonempty is =
      let falls = g.gives.never_falls in
      let start = row_there h.begin (omega arith) in
      let starts = still_starts initial instrs h.begin end g.rows nonempty falls (λ before. let none = sym (none_before initial instrs h.begin end h.begin h.begin g.rows falls before) ∙ start.1 in absurd cc) in
      all_found initial instrs h.begin end g.rows changes falls (hold_all initial instrs h.begin end g.rows falls row_there) starts nonempty is
