use Rattle.dw_section.proofs.Words.{◌≡◌, ◌≤◌, None, length, changes_among, shown_if}
use Rattle.dw_section.specs.Inner.Changes.{fault_of}
use Rattle.dw_section.proofs.change.find_change.Given as goal

abbrev pub invariant-rows : goal.invariant-rows
invariant-rows l =
    let old = l.initial.steps.steps.outcome in let now = l.steps.steps.outcome in
    (now.fault ≡ old.fault) × (length now.rows ≤ length old.rows)
    × (old.fault ≡ None → changes_among l.end (shown_if l.kept l.initial.steps.kept) old.rows ≡ changes_among l.end (shown_if l.kept l.initial.steps.kept) now.rows)
    × (l.steps.kept ≡ l.initial.steps.kept) × (l.steps.led ≡ l.initial.steps.led)
    × (fault_of l.steps.steps ≡ fault_of l.initial.steps.steps)

abbrev pub decreases-rows : goal.decreases-rows
decreases-rows l = length l.steps.steps.outcome.rows
