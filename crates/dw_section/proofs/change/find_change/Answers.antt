use Rattle.dw_section.proofs.Words.{◌≡◌, ◌∷◌, ◌<◌, ◌≤◌, None, Some, refl, sym, ap, ◌∙◌, subst, arith, length, LocatedRow, Shows, Walking, changes_among, shown_if}
use Rattle.dw_section.proofs.Words.{Refusal, Refuses, Option}
use Rattle.dw_section.proofs.ChangesAmong.{failed_judged, fewer_left, found, none_to_come, passes, same_fault, same_judged}
use Rattle.dw_section.specs.Inner.Changes.{fault_of}
use Rattle.dw_section.proofs.change.find_change.Goals as goal

pub returns-then-not-is_shown-clause-finds : goal.returns-then-not-is_shown-clause-finds
returns-then-not-is_shown-clause-finds c = λ none.
    let old = c.rows.steps.steps in let new = c.advance.new.self.steps in
    let shown = shown_if c.args.kept c.args.steps.now.kept in
    let rows = c.args.steps.now.steps.outcome.rows in
    let left = none_to_come c.args.steps.now.steps none in
    let fault = same_fault c.in-Ok-Some.start old new c.in-Ok-Some.field-0 c.in-Ok-Some.ensures.advances c.in-Ok-Some.field-0-is ∙ c.rows.invariant.0 ∙ left in
    let unfaulted = same_judged c.in-Ok-Some.start old new c.in-Ok-Some.field-0 c.in-Ok-Some.ensures.advances c.in-Ok-Some.field-0-is ∙ c.rows.invariant.5 ∙ none in
    let same : shown_if c.args.kept c.advance.new.self.kept ≡ shown = ap (shown_if c.args.kept) (c.in-Ok-Some.ensures.kept ∙ c.rows.invariant.3) in
    subst (λ (w : Walking). (fault_of w.steps ≡ None) × (changes_among c.args.end shown rows ≡ (c.in-Ok-Some.start, w.steps.current) ∷ changes_among c.args.end (Some w.steps.current) w.steps.outcome.rows))
    (sym c.if-not-is_shown.ensures.same) (
      unfaulted,
      c.rows.invariant.2 left
          ∙ found c.in-Ok-Some.start old new c.in-Ok-Some.field-0 c.in-Ok-Some.ensures.advances c.in-Ok-Some.field-0-is c.args.end shown ((c.if-not-is_visible.ensures.visible fault).0 refl) (λ e. let no = c.if-not-is_shown.ensures.shown.1 (same ∙ e) in absurd cc),
    )

pub returns-then-not-is_shown-clause-judges : goal.returns-then-not-is_shown-clause-judges
returns-then-not-is_shown-clause-judges c =
    let old = c.rows.steps.steps in let new = c.advance.new.self.steps in
    let before = c.args.steps.now.steps in
    let fewer = fewer_left c.in-Ok-Some.start old new c.in-Ok-Some.field-0 c.in-Ok-Some.ensures.advances c.in-Ok-Some.field-0-is in
    subst (λ (w : Walking). (fault_of w.steps ≡ fault_of before) × (length w.steps.outcome.rows < length before.outcome.rows) × (c.in-Ok-Some.start < c.args.end)) (sym c.if-not-is_shown.ensures.same) (
      same_judged c.in-Ok-Some.start old new c.in-Ok-Some.field-0 c.in-Ok-Some.ensures.advances c.in-Ok-Some.field-0-is ∙ c.rows.invariant.5,
      omega (arith, fewer, c.rows.invariant.1),
      c.if-not-is_visible.ensures.below refl,
    )

pub rows-preserved : goal.rows-preserved
rows-preserved c =
    let old = c.rows.steps.steps in let new = c.advance.new.self.steps in
    let before = c.args.steps.now in
    let shown = shown_if c.args.kept before.kept in
    let same : shown_if c.args.kept c.advance.new.self.kept ≡ shown = ap (shown_if c.args.kept) (c.in-Ok-Some.ensures.kept ∙ c.rows.invariant.3) in
    let row : LocatedRow = record { location = c.in-Ok-Some.start; row = new.current } in
    let passed : Shows c.args.end shown row new.outcome.rows → ⊥ = λ shows. shows.1 (sym same ∙ c.if-not-is_shown.ensures.shown.0 refl) in
    let fewer = fewer_left c.in-Ok-Some.start old new c.in-Ok-Some.field-0 c.in-Ok-Some.ensures.advances c.in-Ok-Some.field-0-is in
    subst (λ (w : Walking). (w.steps.outcome.fault ≡ before.steps.outcome.fault) × (length w.steps.outcome.rows ≤ length before.steps.outcome.rows) × (before.steps.outcome.fault ≡ None → changes_among c.args.end shown before.steps.outcome.rows ≡ changes_among c.args.end shown w.steps.outcome.rows) × (w.kept ≡ before.kept) × (w.led ≡ before.led) × (fault_of w.steps ≡ fault_of before.steps))
    (sym c.if-not-is_shown.ensures.same) (
      same_fault c.in-Ok-Some.start old new c.in-Ok-Some.field-0 c.in-Ok-Some.ensures.advances c.in-Ok-Some.field-0-is ∙ c.rows.invariant.0,
      omega (arith, fewer, c.rows.invariant.1),
      λ none. c.rows.invariant.2 none ∙ passes c.in-Ok-Some.start old new c.in-Ok-Some.field-0 c.in-Ok-Some.ensures.advances c.in-Ok-Some.field-0-is c.args.end shown passed,
      c.in-Ok-Some.ensures.kept ∙ c.rows.invariant.3,
      c.in-Ok-Some.ensures.led ∙ c.rows.invariant.4,
      same_judged c.in-Ok-Some.start old new c.in-Ok-Some.field-0 c.in-Ok-Some.ensures.advances c.in-Ok-Some.field-0-is ∙ c.rows.invariant.5,
    )

pub returns-in-Err-clause-judges : goal.returns-in-Err-clause-judges
returns-in-Err-clause-judges c =
    subst (λ (x : Option Refusal). Refuses (λ r. x ≡ Some r) c.in-Err.error) c.rows.invariant.5 (failed_judged c.rows.steps.steps c.advance.new.self.steps c.in-Err.error (rw c.in-Err.error-is at c.in-Err.ensures.advances))
