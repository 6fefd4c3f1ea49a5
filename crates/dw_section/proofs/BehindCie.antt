-- How the first change of an FDE stands to the row that the program of its CIE leaves.
use Rattle.dw_row.specs.RegisterSets.{Registers, has}
use Rattle.dw_row.proofs.Lent.RowLists.{Entry}
use Rattle.dw_section.specs.declared.change.Behind.{Behind}
use Rattle.dw_section.proofs.Words.{◌≡◌, ℕ, suc, ◌<◌, Bool, true, false, List, [], ◌∷◌, Option, Some, None, Ok, refl, sym, ap, subst, ◌∙◌, arith, inl, inr, filter, nat_tests, cases_Bool, cases_lt, IfSome, IsTrue, MatchOption, AreBytes}
use Rattle.dw_section.proofs.Words.{LocatedRow, RegRule, Rules, Led, Walking, AllKeep, AreSpecified, Head, Headers, LedTo, Section, changes_among, is_kept, is_specified, kept, kept_by, leaves_one, rule, rule_in, shown_if, unlisted}
use Rattle.std.proofs.Common.{nat_eq, ◌||◌, ◌≤◌}
use Rattle.dw_section.proofs.{Words.{LeavesTo, FirstDifference, CieKeeps, StandsOn, finished, ShownBehind, shown_of, AreChanged, CieLeaves, first_left}, ChangesAmong.none_dropped}

-- ---- the registers to which a row gives other rules than the one before

-- of those below a place a set has the ones that both rows give other rules, and, where this is known, the one before specifies all
-- that the row does
pub record Listed (before row : Rules) (changed : Registers) (keeps : Bool) (place : ℕ) : Type 0 where
  pub beside : (r : ℕ) → r < place → has changed r ≡ false → rule before r ≡ rule row r
  pub only : (r : ℕ) → has changed r ≡ true → (r < place) × (rule before r ≡ rule row r → ⊥)
  pub specified : keeps ≡ true → (r : ℕ) → r < place → is_specified (rule row r) ≡ true → is_specified (rule before r) ≡ true

-- one more register is listed, the next whose rule differs
module _ (before row : Rules) (old new : Registers) (keeps : Bool) (place q : ℕ) (listed : Listed before row old keeps place) (first : FirstDifference place before.registers row.registers (Some q)) (added : (r : ℕ) → has new r ≡ (nat_eq r q || has old r)) where
  between : (r : ℕ) → place ≤ r → r < suc q → nat_eq r q ≡ false → rule before r ≡ rule row r
  between r ge lt ne = first.1 r ge (grind (arith, nat_tests, ne))

  by_place : (P : ℕ → Type 0) (r : ℕ) → P q → (nat_eq r q ≡ false → r < place → P r) → (nat_eq r q ≡ false → place ≤ r → P r) → P r
  by_place P r here below above = elim (cases_Bool (nat_eq r q)) [
    | inl e ↦ subst P (sym (grind (arith, nat_tests, e))) here
    | inr e ↦ elim (cases_lt r place) [ inl lt ↦ below e lt | inr ge ↦ above e ge ]
  ]

  pub listed_more : (keeps' : Bool) → (keeps' ≡ true → (keeps ≡ true) × (is_specified (rule row q) ≡ true → is_specified (rule before q) ≡ true)) → Listed before row new keeps' (suc q)
  listed_more keeps' more = record {
    beside = λ r lt none. elim (cases_lt r place) [ inl below ↦ listed.beside r below (grind (arith, added r, none)) | inr ge ↦ between r ge lt (grind (arith, added r, none)) ];
    only = λ r is. elim (cases_Bool (nat_eq r q)) [
      | inl e ↦ subst (λ (n : ℕ). (n < suc q) × (rule before n ≡ rule row n → ⊥)) (sym (grind (arith, nat_tests, e))) (omega arith, first.2)
      | inr e ↦ let own = listed.only r (grind (arith, added r, e, is)) in (omega (arith, own.0, first.0), own.1)
    ];
    specified = λ all r lt. by_place (λ (n : ℕ). is_specified (rule row n) ≡ true → is_specified (rule before n) ≡ true) r (more all).1 (λ e below. listed.specified (more all).0 r below)
        (λ e ge is. subst (λ (x : RegRule). is_specified x ≡ true) (sym (between r ge lt e)) is);
  }

-- registers that others specify too all stay
all_stay : (others : List Entry) (low : ℕ) (xs : List Entry) → AreSpecified low xs → ((r : ℕ) → is_specified (rule_in xs r) ≡ true → is_specified (rule_in others r) ≡ true) → filter (is_kept others) xs ≡ xs
all_stay others low [] up all = refl
all_stay others low (x ∷ xs) up all =
    let some : is_specified x.1 ≡ true = grind (arith, up.1) in
    let here : is_kept others x ≡ true = all x.0 (grind (arith, nat_tests, some)) in
    let behind : (r : ℕ) → is_specified (rule_in xs r) ≡ true → is_specified (rule_in others r) ≡ true = λ r is. all r (grind (arith, nat_tests, is, unlisted r (suc x.0) xs up.2)) in
    (first_left (is_kept others) x xs here).1 (all_stay others (suc x.0) xs up.2 behind)

-- where no rule differs from the place on, the row before keeps all of the row
pub all_kept : (before row : Rules) (changed : Registers) (keeps : Bool) (place : ℕ) → Listed before row changed keeps place → FirstDifference place before.registers row.registers None → AreSpecified 0 row.registers → keeps ≡ true → kept row before ≡ row
all_kept before row changed keeps place listed last up all =
    let specified : (r : ℕ) → is_specified (rule row r) ≡ true → is_specified (rule before r) ≡ true = λ r is. elim (cases_lt r place) [
      | inl below ↦ listed.specified all r below is
      | inr ge ↦ let same = last r ge in subst (λ (x : RegRule). is_specified x ≡ true) (sym same) is
    ] in
    ap (λ (xs : List Entry). let k : Rules = record { cfa = row.cfa; registers = xs } in k) (all_stay before.registers 0 row.registers up specified)

-- ---- the CIE of a walk

-- the row that was kept is the one on which the walk stands
pub stands_kept : (walk : Walking) → AreBytes walk.led.program.bytes → StandsOn walk.led walk.steps.outcome walk.initial → LeavesTo walk.led.factors walk.led.program (Ok walk.kept) → kept walk.steps.current walk.kept ≡ walk.steps.current → CieKeeps walk walk.steps.current
stands_kept walk bytes stands left same = stands_by walk.initial stands where
  stands_by : (initial : Option Rules) → StandsOn walk.led walk.steps.outcome initial → MatchOption initial (walk.steps.outcome ≡ finished) (λ initial. kept walk.steps.current initial ≡ walk.steps.current)
  stands_by None stands = stands
  stands_by (Some row) stands =
      let one = leaves_one walk.led.factors walk.led.program left.0 stands.1.0 walk.kept row bytes left.1 stands.1.1 in
      subst (λ (r : Rules). kept walk.steps.current r ≡ walk.steps.current) one same

-- ---- the row that is shown

module _ (lent kept : Bool) (current before : Rules) (none : kept ≡ false) where
  -- where none was kept it is the one that is lent, or none
  shows_lent : (P : Rules → Type 0) → P current → IfSome (shown_of lent current (shown_if kept before)) P
  shows_lent P is = elim (cases_Bool lent) [ inl e ↦ rw e is | inr e ↦ rw (e, none) tt ]

  -- the changes behind it drop none of its registers
  drops_none : (end : ℕ) (rows : List LocatedRow) → AllKeep current rows → IfSome (shown_of lent current (shown_if kept before)) (λ first. kept_by first (changes_among end (shown_of lent current (shown_if kept before)) rows) ≡ first)
  drops_none end rows all = elim (cases_Bool lent) [
    | inl e ↦ rw e (sym (none_dropped current end (Some current) rows all))
    | inr e ↦ rw (e, none) tt
  ]

module _ (s : Section) (hs : List Head) (place : ℕ) (walk : Walking) (lent kept : Bool) (are : Headers s.target s.bytes hs) (by : LedTo s.target hs (Some place) walk.led) (none : kept ≡ false) where
  abbrev shown : Option Rules
  shown = shown_of lent walk.steps.current (shown_if kept walk.kept)

  -- what is answered of the CIE
  pub cie_shown : (changed : Registers) (answer : Option Behind) → IfSome answer (λ behind. behind.cie_at ≡ place) → IfSome answer (λ _. ShownBehind walk changed)
      → IfSome answer (λ behind. (row : Rules) × CieLeaves s.target s.bytes behind.cie_at row × IfSome shown (AreChanged changed row))
  cie_shown changed None at is = tt
  cie_shown changed (Some behind) at is =
      let left = subst (λ (l : Led). LeavesTo l.factors l.program (Ok walk.kept)) by.3 is.0 in
      (walk.kept, record { headers = hs; are = are; head = by.0; among = by.1; stands = by.2 ∙ sym at; leaves = left }, shows_lent lent kept walk.steps.current walk.kept none (AreChanged changed walk.kept) is.1)

  -- and of the changes still to come
  pub all_shown : (end : ℕ) (answer : Option Behind) → IfSome answer (λ behind. IsTrue behind.keeps → AreBytes walk.led.program.bytes → AllKeep walk.steps.current walk.steps.outcome.rows)
      → IfSome answer (λ behind. IsTrue behind.keeps → IfSome shown (λ first. kept_by first (changes_among end shown walk.steps.outcome.rows) ≡ first))
  all_shown end None all = tt
  all_shown end (Some behind) all = λ keeps. drops_none lent kept walk.steps.current walk.kept none end walk.steps.outcome.rows (all keeps (subst (λ (l : Led). AreBytes l.program.bytes) (sym by.3) by.4))
