-- Changes of an FDE and their rules, one after another over two buffers.
use Rattle.std.specs.Prelude.{IfErr}
use Rattle.dw_num.specs.{Refusals.Refuses, declared.{error.ReadError.ReadError, error.ReadError.TheVariants.Refused, refusal.Refusal.Refusal}}
use Rattle.dw_section.specs.StandingChanges.{GivesNext, Judging}
use Rattle.dw_library.specs.{Changes.rules_in, declared.rows.Totals.Totals}
use Rattle.dw_library.proofs.Words.{◌≡◌, ℕ, ◌+◌, ◌-◌, ◌^◌, ◌<◌, ◌≤◌, List, [], ◌∷◌, ◌++◌, length, map, min, slice_set, refl, sym, ap, subst, ◌∙◌, arith, inl, inr, Option}
use Rattle.dw_library.proofs.Words.{Some, None, Ok, Err, Result, leb_tells, flat_map_more, length-append, length-map, map_push, mid_of, put_mid, Rules}
use Rattle.dw_library.proofs.{Words.{Fits, Fde, Change, Rule, AreWritten, change_of, over, rule_of}, Written.{over_full, over_length, written_left}}

-- ---- one more

-- an item behind some that fit
push_fits : {X : Type 0} (before : List X) (x : X) (old : List X) → length before < length old → slice_set (over before old) (length before) x ≡ over (before ++ x ∷ []) old
push_fits [] x [] lt = absurd (omega arith)
push_fits [] x (y ∷ old) lt = refl
push_fits (z ∷ before) x [] lt = absurd (omega arith)
push_fits (z ∷ before) x (y ∷ old) lt = ap (λ l. z ∷ l) (push_fits before x old (omega arith))

pushed : {X : Type 0} (before : List X) (x : X) (old now new : List X) (count : ℕ) → now ≡ over before old → length now < 2 ^ 64 → count ≡ min (length before) (2 ^ 64 - 1)
    → (count < length now → new ≡ slice_set now count x) → (length now ≤ count → new ≡ now) → new ≡ over (before ++ x ∷ []) old
pushed {X} before x old now new count is few counted inside outside =
    let same : length now ≡ length old = ap (λ (l : List X). length l) is ∙ over_length before old in
    elim (leb_tells (length old) (length before)) [
      | inl le ↦ outside (omega (arith, le.1, same, few, counted)) ∙ is ∙ over_full before (x ∷ []) old le.1
      | inr lt ↦
          let at : count ≡ length before = omega (arith, lt.1, same, few, counted) in
          inside (omega (arith, lt.1, same, at)) ∙ rw (is, at) (push_fits before x old lt.1)
    ]

module _ (f : Fde) (done : List (ℕ × Rules)) (change : ℕ × Rules) (changes changes_now new_changes : List Change) (rules rules_now new_rules part : List Rule) (before after : Totals) (place count : ℕ) where
  abbrev own : List Rule
  own = map rule_of change.1.registers

  pub written_more : AreWritten f done changes rules changes_now rules_now before
      → length changes_now < 2 ^ 64 → length rules_now < 2 ^ 64 → place ≡ min before.rules (length rules_now)
      → part ≡ over own (mid_of place (length rules_now - place) rules_now) → new_rules ≡ put_mid place (length rules_now - place) rules_now part → count ≡ length change.1.registers
      → (before.changes < length changes_now → new_changes ≡ slice_set changes_now before.changes (change_of f change)) → (length changes_now ≤ before.changes → new_changes ≡ changes_now)
      → after.changes ≡ min (before.changes + 1) (2 ^ 64 - 1) → after.rules ≡ min (before.rules + count) (2 ^ 64 - 1)
      → AreWritten f (done ++ change ∷ []) changes rules new_changes new_rules after
  written_more w few few_rules at part_is put counted inside outside more more_rules =
      let told = map (change_of f) done in
      let so_long : length told ≡ length done = length-map done (change_of f) in
      let all : rules_in done ++ own ≡ rules_in (done ++ change ∷ []) = flat_map_more (λ (c : ℕ × Rules). map rule_of c.1.registers) [] done change in
      let room : place ≡ min (length (rules_in done)) (length rules_now) = omega (arith, at, w.rule_count, few_rules) in
      record {
        changes_are = pushed told (change_of f change) changes changes_now new_changes before.changes w.changes_are few (w.change_count ∙ ap (λ (k : ℕ). min k (2 ^ 64 - 1)) (sym so_long)) inside outside
            ∙ ap (λ (l : List Change). over l changes) (sym (map_push (change_of f) done change));
        rules_are = put ∙ written_left (rules_in done) own rules rules_now part place room w.rules_are part_is ∙ ap (λ (l : List Rule). over l rules) all;
        change_count = omega (arith, more, w.change_count, length-append done (change ∷ []));
        rule_count = omega (arith, more_rules, w.rule_count, counted, length-map change.1.registers rule_of, length-append (rules_in done) own, ap (λ (l : List Rule). length l) all);
      }

-- a call that goes on to the next change gives the one that is lent
pub next_given : (old new : Judging) (o : Option ℕ) (address : ℕ) → GivesNext old (Ok o) new → o ≡ Some address → (new.fault ≡ old.fault) × (new.rows < old.rows) × (old.fault ≡ None → old.to_come ≡ (address, new.current) ∷ new.to_come)
next_given old new o address gives is = subst (λ (x : Option ℕ). GivesNext old (Ok x) new) is gives

-- behind the last change there is none, and no fault
pub none_given : (old new : Judging) (o : Option ℕ) → GivesNext old (Ok o) new → o ≡ None → (old.fault ≡ None) × (old.to_come ≡ [])
none_given old new o gives is = subst (λ (x : Option ℕ). GivesNext old (Ok x) new) is gives

-- a refusal is the fault
pub refused_fault : {X : Type 0} (fault : Option Refusal) (answer : Result X ReadError) (e : ReadError) (r : Refusal) → IfErr answer (Refuses (λ q. fault ≡ Some q)) → answer ≡ Err e → e ≡ Refused r → fault ≡ Some r
refused_fault fault answer e r h is same = rw (is, same) at h

-- both buffers have the rooms that they had
pub fits_rooms : (f : Fde) (all : List (ℕ × Rules)) (out new_out : List Change) (rules new_rules : List Rule) (n : Totals) (status : ℕ)
    → AreWritten f all out rules new_out new_rules n → Fits n (length new_out) (length new_rules) status → Fits n (length out) (length rules) status
fits_rooms f all out new_out rules new_rules n status w fits =
    let changes_long : length new_out ≡ length out = ap (λ (l : List Change). length l) w.changes_are ∙ over_length _ out in
    let rules_long : length new_rules ≡ length rules = ap (λ (l : List Rule). length l) w.rules_are ∙ over_length _ rules in
    subst (λ (k : ℕ). Fits n k (length rules) status) changes_long (subst (λ (k : ℕ). Fits n (length new_out) k status) rules_long fits)
