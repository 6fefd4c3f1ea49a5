-- The list of the changes among rows, and how the code finds one after another.
use Rattle.dw_section.proofs.Words.{◌≡◌, ◌⊎◌, ◌<◌, ℕ, Bool, arith, length, false, List, [], ◌∷◌, Option, Some, None, Ok, refl, sym, ap, ◌∙◌, subst, inl, inr, ◌&&◌, not, nat_lt, Decides, cases_Bool, Decides-and, Decides-ltb, Decides-not, LocatedRow, Rules}
use Rattle.dw_section.proofs.Words.{Outcome, Among, Before, Shows, changes_among, kept_by, Stepping, Advances, AllKeep, row_then, is_before, repeats}
use Rattle.dw_row.proofs.Lent.Equal.{row_test}
use Rattle.dw_num.specs.declared.error.ReadError.TheVariants.{Refused, OutOfMemory}
use Rattle.dw_cfa.specs.RowSteps.{Failed}
use Rattle.dw_section.specs.Inner.Changes.{fault_behind, fault_of}
use Rattle.dw_section.proofs.Words.{ReadError, Refusal, Refuses}

pub before_tells : (end a : ℕ) (rows : List LocatedRow) → Decides (is_before end a rows) (Before end a rows)
before_tells end a [] = Decides-ltb a end
before_tells end a (next ∷ rows) = Decides-and (nat_lt a next.location) (nat_lt a end) (Decides-ltb a next.location) (Decides-ltb a end)

repeats_tells : (shown : Option Rules) (row : Rules) → Decides (repeats shown row) (shown ≡ Some row)
repeats_tells None row = (λ e. cc, λ e. cc)
repeats_tells (Some shown) row = let told = row_test.1 shown row in (λ e. ap Some (told.0 e), λ e. told.1 cc)

module _ (end : ℕ) (shown : Option Rules) (row : LocatedRow) (rows : List LocatedRow) where
  abbrev shows : Bool
  shows = is_before end row.location rows && not (repeats shown row.row)

  tells : Decides shows (Shows end shown row rows)
  tells = Decides-and (is_before end row.location rows) (not (repeats shown row.row)) (before_tells end row.location rows) (Decides-not (repeats shown row.row) (repeats_tells shown row.row))

  passed : shows ≡ false → (Before end row.location rows → ⊥) ⊎ (shown ≡ Some row.row)
  passed e = elim (cases_Bool (repeats shown row.row)) [
    | inl same ↦ inr ((repeats_tells shown row.row).0 same)
    | inr other ↦ inl (λ before. let is = (before_tells end row.location rows).1 before in let both = rw (is, other) at e in absurd cc)
  ]

pub are_among : (end : ℕ) (shown : Option Rules) (rows : List LocatedRow) → Among end shown rows (changes_among end shown rows)
are_among end shown [] = refl
are_among end shown (row ∷ rows) = elim (cases_Bool (is_before end row.location rows && not (repeats shown row.row))) [
  | inl e ↦ rw e (inr ((tells end shown row rows).0 e, (changes_among end (Some row.row) rows, refl, are_among end (Some row.row) rows)))
  | inr e ↦ rw e (inl (passed end shown row rows e, are_among end shown rows))
]

-- the changes among rows that keep all registers drop none
pub none_dropped : (shared : Rules) (end : ℕ) (shown : Option Rules) (rows : List LocatedRow) → AllKeep shared rows → shared ≡ kept_by shared (changes_among end shown rows)
none_dropped shared end shown [] h = refl
none_dropped shared end shown (row ∷ rows) h = elim (cases_Bool (is_before end row.location rows && not (repeats shown row.row))) [
  | inl e ↦ rw e (none_dropped shared end (Some row.row) rows h.1 ∙ ap (λ (r : Rules). kept_by r (changes_among end (Some row.row) rows)) (sym h.0))
  | inr e ↦ rw e (none_dropped shared end shown rows h.1)
]

-- ---- as the code finds them

none_left : (e : Option ReadError) (fault : Option Refusal) → fault_behind e fault ≡ None → fault ≡ None
none_left None fault none = none
none_left (Some OutOfMemory) fault none = none
none_left (Some (Refused r)) fault none = absurd cc

-- what has no fault has none to come
pub none_to_come : (x : Stepping) → fault_of x ≡ None → x.outcome.fault ≡ None
none_to_come x none = none_left x.error x.outcome.fault none

-- an error is the fault, or memory ran out
pub failed_judged : (old new : Stepping) (e : ReadError) → Failed old e new → Refuses (λ r. fault_of old ≡ Some r) e
failed_judged old new OutOfMemory h = tt
failed_judged old new (Refused r) (error, ended, inl again) = let same = ap (λ (s : Stepping). s.error) again ∙ error in rw same refl
failed_judged old new (Refused r) (error, ended, inr (first, fault)) = rw first (ap (λ (o : Outcome). o.fault) fault)

-- behind an error nothing is to come
pub none_behind : (old new : Stepping) (e : ReadError) → Failed old e new → fault_of old ≡ None → fault_of new ≡ None
none_behind old new OutOfMemory h none = rw (h.0, ap (λ (o : Outcome). o.fault) h.1) refl
none_behind old new (Refused r) h none = let bad = sym (failed_judged old new (Refused r) h) ∙ none in absurd cc

module _ (start : ℕ) (old new : Stepping) (o : Option ℕ) (advances : Advances old (Ok o) new) (some : o ≡ Some start) where
  abbrev row : LocatedRow
  row = record { location = start; row = new.current }

  moved : old.outcome ≡ row_then row new.outcome
  moved = (subst (λ (p : Option ℕ). Advances old (Ok p) new) some advances).2

  pub same_fault : new.outcome.fault ≡ old.outcome.fault
  same_fault = sym (ap (λ (o : Outcome). o.fault) moved)

  pub same_judged : fault_of new ≡ fault_of old
  same_judged = let errors = subst (λ (p : Option ℕ). Advances old (Ok p) new) some advances in rw (errors.0, errors.1) same_fault

  pub fewer_left : length new.outcome.rows < length old.outcome.rows
  fewer_left = omega (arith, ap (λ (o : Outcome). length o.rows) moved)

  module _ (end : ℕ) (shown : Option Rules) where
    -- a row that an address shows and that is not the one that was shown
    pub found : Before end start new.outcome.rows → (shown ≡ Some new.current → ⊥) → changes_among end shown old.outcome.rows ≡ (start, new.current) ∷ changes_among end (Some new.current) new.outcome.rows
    found before other = ap (λ (o : Outcome). changes_among end shown o.rows) moved ∙ rw ((tells end shown row new.outcome.rows).1 (before, other)) refl

    -- and one that is not
    pub passes : (Shows end shown row new.outcome.rows → ⊥) → changes_among end shown old.outcome.rows ≡ changes_among end shown new.outcome.rows
    passes not = ap (λ (o : Outcome). changes_among end shown o.rows) moved ∙ elim (cases_Bool (shows end shown row new.outcome.rows)) [ inl e ↦ absurd (not ((tells end shown row new.outcome.rows).0 e)) | inr e ↦ rw e refl ]
