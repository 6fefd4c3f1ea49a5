-- Where rows leave an address without a rule for the CFA, by tests of one row after another.
use Rattle.dw_cfa.specs.Coverage.{Lacks}
use Rattle.dw_cfa.proofs.Words.{◌≡◌, ℕ, ◌<◌, ◌≤◌, Bool, true, false, List, [], ◌∷◌, Option, Some, None, refl, sym, ap, ◌∙◌, arith, inl, inr, MatchBool, nat_tests, cases_lt, le-leb, or_cases}
use Rattle.dw_cfa.proofs.{Words.{or_parts, CfaRule, LocatedRow, Rules, Unset, or_here, last_at, NeverFalls, is_unset, leaves_one, lacks_from}, Lent.RowsAt.{last_from, none_at, not_le}}

-- ---- the row of an address

-- whether the row of an address has no rule for the CFA; before the first row it is the one before
abbrev unset_in : Bool → Option Rules → Bool
unset_in unset None = unset
unset_in unset (Some row) = is_unset row.cfa

or_below : (a : ℕ) (first : LocatedRow) (unset : Bool) (rest : Option Rules) → first.location ≤ a → unset_in unset (or_here a first rest) ≡ unset_in (is_unset first.row.cfa) rest
or_below a first unset None le = rw (le-leb first.location a le) refl
or_below a first unset (Some row) le = refl

-- where rows leave an address without a rule, its row has none
lacks_found : (end low : ℕ) (unset : Bool) (rows : List LocatedRow) → NeverFalls low rows → lacks_from end low unset rows ≡ true
    → (a : ℕ) × (low ≤ a) × (a < end) × (unset_in unset (last_at a rows) ≡ true)
lacks_found end low unset [] up e = (low, omega arith, grind (arith, nat_tests), grind (arith, nat_tests))
lacks_found end low unset (row ∷ rows) up e = elim (or_cases (leaves_one end low unset row.location) (lacks_from end row.location (is_unset row.row.cfa) rows) e) [
  | inl here ↦
      let lt : low < row.location = grind (arith, nat_tests) in
      let none = none_at low row.location rows lt up.1 in
      (low, omega arith, grind (arith, nat_tests), rw (none, not_le row.location low lt) (grind (arith, nat_tests)))
  | inr later ↦
      let q = lacks_found end row.location (is_unset row.row.cfa) rows up.1 later in
      (q.0, omega (arith, up.0, q.1), q.2, or_below q.0 row unset (last_at q.0 rows) q.1 ∙ q.3)
]

-- where they leave none, each has one
lacks_none : (end low : ℕ) (unset : Bool) (rows : List LocatedRow) → NeverFalls low rows → lacks_from end low unset rows ≡ false
    → (a : ℕ) → low ≤ a → a < end → unset_in unset (last_at a rows) ≡ false
lacks_none end low unset [] up e a le lt = grind (arith, nat_tests)
lacks_none end low unset (row ∷ rows) up e a le lt =
    let p = or_parts (leaves_one end low unset row.location) (lacks_from end row.location (is_unset row.row.cfa) rows) e in
    elim (cases_lt a row.location) [
      | inl before ↦
          let none = none_at a row.location rows before up.1 in
          rw (none, not_le row.location a before) (grind (arith, nat_tests, p.0))
      | inr behind ↦ or_below a row unset (last_at a rows) behind ∙ lacks_none end row.location (is_unset row.row.cfa) rows up.1 p.1 a behind lt
    ]

-- ---- whether they do

found_so : (end low : ℕ) (rows : List LocatedRow) (a : ℕ) → a < end → (o : Option Rules) → last_at a rows ≡ o → unset_in false o ≡ true → Lacks end rows
found_so end low rows a lt None is e = absurd cc
found_so end low rows a lt (Some row) is e = record { address = a; below = lt; row = row; last = is; unset = unset_is row.cfa e }
  where
    unset_is : (c : CfaRule) → is_unset c ≡ true → c ≡ Unset
    unset_is Unset e = refl
    unset_is c e = absurd cc

pub lacks_tells : (end low : ℕ) (rows : List LocatedRow) → NeverFalls low rows → (lacks : Bool) → lacks ≡ lacks_from end low false rows → MatchBool lacks (Lacks end rows) (Lacks end rows → ⊥)
lacks_tells end low rows up true is = let w = lacks_found end low false rows up (sym is) in found_so end low rows w.0 w.2 (last_at w.0 rows) refl w.3
lacks_tells end low rows up false is = λ w.
    let none : unset_in false (last_at w.address rows) ≡ false = lacks_none end low false rows up (sym is) w.address (last_from w.address low rows w.row up w.last) w.below in
    let no = rw w.last at none in
    let yes = ap is_unset w.unset in
    absurd cc
