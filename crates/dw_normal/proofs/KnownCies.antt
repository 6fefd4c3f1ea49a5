-- What is known of CIEs stays so while the rows of the groups are narrowed.
use Rattle.dw_normal.proofs.Words.{◌≡◌, ◌⊎◌, ℕ, true, List, [], ◌∷◌, Option, Some, None, Result, Ok, Err, refl, sym, ap, ◌∙◌, subst, inl, inr, arith, IsTrue, IfOk, IfSome, OnOk, cases_Bool, AllByRecursion, nat_cmp, insert_entry, BTreeMap}
use Rattle.dw_normal.proofs.Words.{AreSpecified, Rules, rule, agreed, same_rule, Changing, kept_by, Member, row_of, shown_row, with_member, get, if◌then◌else◌, RegRule, is_kept, kept, is_agreed, rules, rule_tells, Registers, AgreesBeside}
use Rattle.dw_normal.proofs.{Words.{SameBeside, is_specified, same_rows, Behind, AreChanged, CieLeaves, Section, CieSet, Known, ShownBehind, Agree, AgreesAt, AreLess, HoldsAt, Notes, NotesAgree}, Grouped.found_in}
use Rattle.std.proofs.lemmas.{Bool.{cases_eq, Decides.nat_tests}, Option.IfSome_then}
use Rattle.dw_row.specs.declared.rule.RegRule.TheVariants.{Unspecified}
use Rattle.dw_row.proofs.Lent.Narrowed.{filter_keeps, filter_rule}
use Rattle.dw_normal.specs.Inner.Known.{Puts}

-- ---- rows that specify no more than another

abbrev Ascends : Rules → Type 0
Ascends row = AreSpecified 0 row.registers

agreed_ascends : (s first : Rules) → Ascends s → Ascends (agreed s first)
agreed_ascends s first up = filter_keeps (is_agreed first.registers) 0 s.registers up

kept_ascends : (s row : Rules) → Ascends s → Ascends (kept s row)
kept_ascends s row up = filter_keeps (is_kept row.registers) 0 s.registers up

-- none is left of a register, or both rows have its rule
agreed_or : (s first : Rules) → Ascends s → (r : ℕ) → (rule (agreed s first) r ≡ Unspecified) ⊎ ((rule (agreed s first) r ≡ rule s r) × (rule s r ≡ rule first r))
agreed_or s first up r = search (rules, filter_rule, is_agreed, cases_Bool, same_rule, rule, rule_tells)

kept_or : (s row : Rules) → Ascends s → (r : ℕ) → (rule (kept s row) r ≡ Unspecified) ⊎ ((rule (kept s row) r ≡ rule s r) × (is_specified (rule row r) ≡ true))
kept_or s row up r = search (rules, filter_rule, is_kept, cases_Bool, is_specified, rule)

abbrev AllSpecify : ℕ → List (ℕ × Rules) → Type 0
AllSpecify r later = AllByRecursion (λ (change : ℕ × Rules). is_specified (rule change.1 r) ≡ true) later

kept_by_ascends : (s : Rules) (later : List (ℕ × Rules)) → Ascends s → Ascends (kept_by s later)
kept_by_ascends s [] up = up
kept_by_ascends s (change ∷ later) up = kept_by_ascends (kept s change.1) later (kept_ascends s change.1 up)

kept_by_cfa : (s : Rules) (later : List (ℕ × Rules)) → (kept_by s later).cfa ≡ s.cfa
kept_by_cfa s [] = refl
kept_by_cfa s (change ∷ later) = kept_by_cfa (kept s change.1) later

kept_by_or : (s : Rules) (later : List (ℕ × Rules)) → Ascends s → (r : ℕ) → (rule (kept_by s later) r ≡ Unspecified) ⊎ ((rule (kept_by s later) r ≡ rule s r) × AllSpecify r later)
kept_by_or s [] up r = inr (refl, tt)
kept_by_or s (change ∷ later) up r = search (rules, kept_by_or (kept s change.1) later (kept_ascends s change.1 up) r, kept s change.1, kept_ascends s change.1 up, kept_or s change.1 up r)

kept_by_stays : (s : Rules) (later : List (ℕ × Rules)) → Ascends s → (r : ℕ) → AllSpecify r later → rule (kept_by s later) r ≡ rule s r
kept_by_stays s [] up r all = refl
kept_by_stays s (change ∷ later) up r all =
    let some = all.0 in
    kept_by_stays (kept s change.1) later (kept_ascends s change.1 up) r all.1 ∙ filter_rule (is_kept change.1.registers) 0 s.registers r up ∙ rw some refl

-- changes that keep a row keep what another one has of it
module _ (s first : Rules) (later : List (ℕ × Rules)) (up : Ascends s) (own : Ascends first) (keeps : kept_by first later ≡ first) where
  abbrev both : Rules
  both = agreed s first

  none_more : (r : ℕ) → rule both r ≡ Unspecified → rule (kept_by both later) r ≡ rule both r
  none_more r none = elim (kept_by_or both later (agreed_ascends s first up) r) [ inl gone ↦ gone ∙ sym none | inr here ↦ here.0 ]

  each_kept : (r : ℕ) → rule (kept_by both later) r ≡ rule both r
  each_kept r = search (rules, agreed_or, none_more, kept_by_or, rule, kept_by_stays, agreed_ascends)

  pub still_kept : kept_by both later ≡ both
  still_kept =
      let mine = agreed_ascends s first up in
      same_rows (kept_by both later) both (kept_by_ascends both later mine) mine (kept_by_cfa both later) each_kept

-- what two rows have in common specifies no register that one of them leaves Unspecified
left_or : (x y : RegRule) → (x ≡ Unspecified) ⊎ (x ≡ y) → (if is_specified y then x else Unspecified) ≡ x
left_or x Unspecified h = elim h [ inl e ↦ sym e | inr e ↦ sym e ]
left_or x y h = refl

pub agreed_kept : (s first : Rules) → Ascends s → kept (agreed s first) first ≡ agreed s first
agreed_kept s first up =
    let mine = agreed_ascends s first up in
    let both = agreed s first in
    let here : (r : ℕ) → (rule both r ≡ Unspecified) ⊎ (rule both r ≡ rule first r) = λ r. elim (agreed_or s first up r) [ inl none ↦ inl none | inr same ↦ inr (same.0 ∙ same.1) ] in
    same_rows (kept both first) both (kept_ascends both first mine) mine refl
    (λ r. filter_rule (is_kept first.registers) 0 both.registers r mine ∙ left_or (rule both r) (rule first r) (here r))

-- ---- what a group's row has beside that of a CIE

-- outside the registers that an FDE's first row has changed
pub agreed_beside : (set : Registers) (s first row : Rules) → Ascends s → SameBeside set row first → AgreesBeside set (agreed s first) row
agreed_beside set s first row up same r out = search (rules, agreed_or)

agreed_still : (set : Registers) (s first row : Rules) → Ascends s → AgreesBeside set s row → AgreesBeside set (agreed s first) row
agreed_still set s first row up agrees r out = search (rules, agreed_or)

kept_still : (set : Registers) (s row : Rules) (later : List (ℕ × Rules)) → Ascends s → AgreesBeside set s row → AgreesBeside set (kept_by s later) row
kept_still set s row later up agrees r out = search (rules, kept_by_or)

-- the same of what later changes leave of it
pub shared_beside : (set : Registers) (s first row shared : Rules) (later : List (ℕ × Rules)) → Ascends s → shared ≡ agreed s first → AgreesBeside set shared row → AgreesBeside set (kept_by shared later) row
shared_beside set s first row shared later up is agrees = kept_still set shared row later (subst Ascends (sym is) (agreed_ascends s first up)) agrees

-- ---- what is noted of CIEs

pub notes_more : (P Q : Registers → Type 0) → ((set : Registers) → P set → Q set) → (place register : ℕ) (old new : BTreeMap ℕ CieSet) → Notes P place register old new → Notes Q place register old new
notes_more P Q to place register old new notes at = search rules

pub puts_notes : (P : Registers → Type 0) (place register : ℕ) (set : Registers) (old mid new : BTreeMap ℕ CieSet) → AreLess old mid → Puts place (record { register = register; set = set }) mid new → P set → Notes P place register old new
puts_notes P place register set old mid new less puts h at = search rules

-- ---- the rows of the groups

-- a group begins, of which nothing was known, or its row gets narrower
module _ (s : Section) (rows new : List (ℕ × Rules)) (k : ℕ) (w : Rules) (made : new ≡ insert_entry nat_cmp rows k w)
    (narrower : (x : Rules) → row_of rows k ≡ Some x → (set : Registers) (row : Rules) → AgreesBeside set x row → AgreesBeside set w row) where
  own_row : row_of new k ≡ Some w
  own_row = grind (arith, nat_tests, made, found_in k k w rows)

  stays_at : (place : ℕ) (cie : CieSet) → AgreesAt s rows place cie → AgreesAt s new place cie
  stays_at place cie h = elim (cases_eq k cie.register) [
    | inl same ↦ record { shared = w; stands = ap (row_of new) (sym same) ∙ own_row; agrees = λ row leaves. narrower h.shared (ap (row_of rows) same ∙ h.stands) cie.set row (h.agrees row leaves) }
    | inr other ↦ let stands = h.stands in record { shared = h.shared; stands = grind (arith, nat_tests, made, found_in k cie.register w rows, stands); agrees = h.agrees }
  ]

  pub still_agree : (cies : BTreeMap ℕ CieSet) → Agree s rows cies → Agree s new cies
  still_agree cies agree place = IfSome_then (get nat_cmp cies place) (agree place) (stays_at place)

  noted_at : (place : ℕ) (old cies : BTreeMap ℕ CieSet) → Agree s rows old → Notes (λ set. (row : Rules) → CieLeaves s.target s.bytes place row → AgreesBeside set w row) place k old cies → Agree s new cies
  noted_at place old cies agree notes at = search (rules, still_agree, own_row)

  -- a CIE leaves one row, so of each row that it leaves the first one has what is outside a set
  pub noted_agree : ((at : ℕ) (y z : Rules) → CieLeaves s.target s.bytes at y → CieLeaves s.target s.bytes at z → y ≡ z) → (changes : Changing) → changes.section ≡ s → (behind : Option Behind) (old : Known)
      → IfSome behind (ShownBehind changes old.changed) → (cies : BTreeMap ℕ CieSet) → Agree s rows old.cies → NotesAgree behind k old (shown_row changes) w cies → Agree s new cies
  noted_agree law changes section None old stands cies agree same = still_agree cies (subst (Agree s rows) (sym same) agree)
  noted_agree law changes section (Some b) old stands cies agree notes =
      let leaves = subst (λ (t : Section). CieLeaves t.target t.bytes b.cie_at stands.row) section stands.leaves in
      let more : (set : Registers) → ((row : Rules) → SameBeside old.changed row (shown_row changes) → AgreesBeside set w row) → (row : Rules) → CieLeaves s.target s.bytes b.cie_at row → AgreesBeside set w row = λ set h row left.
      h row (subst (λ (y : Rules). SameBeside old.changed y (shown_row changes)) (law b.cie_at stands.row row leaves left) stands.beside) in
      noted_at b.cie_at old.cies cies agree (notes_more _ _ more b.cie_at k old.cies cies notes)

-- what is known of the CIE of an FDE, where this is the row of its group
pub known_agrees : (s : Section) (rows : List (ℕ × Rules)) (k : ℕ) (x : Rules) → row_of rows k ≡ Some x → (behind : Option Behind) (u : Section) (cies : BTreeMap ℕ CieSet) → u ≡ s → Agree s rows cies
    → IfSome behind (λ b. (row : Rules) → CieLeaves u.target u.bytes b.cie_at row → HoldsAt (λ set. AgreesBeside set x row) b.cie_at k cies)
known_agrees s rows k x found None u cies section agree = tt
known_agrees s rows k x found (Some b) u cies section agree = λ row leaves set is.
    let here = subst (λ (o : Option CieSet). IfSome o (AgreesAt s rows b.cie_at)) is (agree b.cie_at) in
    let stands = here.stands in
    let same : here.shared ≡ x = cc in
    subst (λ (y : Rules). AgreesBeside set y row) same (here.agrees row (subst (λ (t : Section). CieLeaves t.target t.bytes b.cie_at row) section leaves))

-- what an FDE more leaves of a group's row
pub narrower : (rows : List (ℕ × Rules)) (k : ℕ) (x first w : Rules) (later : List (ℕ × Rules)) → Ascends x → row_of rows k ≡ Some x → w ≡ kept_by (agreed x first) later
    → (y : Rules) → row_of rows k ≡ Some y → (set : Registers) (row : Rules) → AgreesBeside set y row → AgreesBeside set w row
narrower rows k x first w later up found is y same set row agrees =
    let one : y ≡ x = cc in
    rw is (kept_still set (agreed x first) row later (agreed_ascends x first up) (agreed_still set x first row up (rw one at agrees)))

pub with_begun : (rows : List (ℕ × Rules)) (k : ℕ) (m : Member) (later : List (ℕ × Rules)) → k ≡ m.register → row_of rows k ≡ None → later ≡ m.later → insert_entry nat_cmp rows k (kept_by m.first later) ≡ with_member rows m
with_begun rows k m later register none rest = cc

pub with_narrowed : (rows new : List (ℕ × Rules)) (k : ℕ) (m : Member) (x w : Rules) (later : List (ℕ × Rules)) → k ≡ m.register → row_of rows k ≡ Some x → later ≡ m.later → new ≡ insert_entry nat_cmp rows k w
    → w ≡ kept_by (agreed x m.first) later → new ≡ with_member rows m
with_narrowed rows new k m x w later register found rest made is = cc

pub on_both : {A E : Type 0} (r : Result A E) (P Q S : Type 0) → (P → Q → S) → OnOk r P → OnOk r Q → OnOk r S
on_both (Ok x) P Q S to h k = to h k
on_both (Err e) P Q S to h k = tt

-- ---- how a row that is shown stands to that of its CIE

pub stands_behind : {E : Type 0} (s : Section) (next : Changing) (changed : Registers) (first : Rules) (r : Result (Option Behind) E) → next.section ≡ s → OnOk r (next.shown ≡ Some first)
    → IfOk r (λ (found : Option Behind). IfSome found (λ (b : Behind). (row : Rules) × CieLeaves s.target s.bytes b.cie_at row × IfSome next.shown (AreChanged changed row)))
    → IfOk r (λ (found : Option Behind). IfSome found (λ (b : Behind). IsTrue b.keeps → IfSome next.shown (λ (row : Rules). kept_by row next.to_come ≡ row))) → IfOk r (λ (found : Option Behind). IfSome found (ShownBehind next changed))
stands_behind s next changed first (Err e) section shown beside keeps = tt
stands_behind s next changed first (Ok None) section shown beside keeps = tt
stands_behind s next changed first (Ok (Some b)) section shown beside keeps = search rules
