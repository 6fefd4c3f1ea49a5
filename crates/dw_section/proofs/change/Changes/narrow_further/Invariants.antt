use Rattle.dw_section.proofs.Words.{◌≡◌, true, length, kept_by, last_shown, NarrowedBy}
use Rattle.dw_section.proofs.change.Changes.narrow_further.Given as goal

abbrev pub invariant-changes : goal.invariant-changes
invariant-changes l =
    (kept_by l.row l.self.to_come ≡ kept_by l.initial.row l.initial.self.to_come) × NarrowedBy l.row l.self.shown
    × (l.self.section ≡ l.initial.self.section) × (last_shown l.self.shown l.self.to_come ≡ last_shown l.initial.self.shown l.initial.self.to_come)
    × (l.initial.self.failed ≡ true → l.self.failed ≡ true)

abbrev pub decreases-changes : goal.decreases-changes
decreases-changes l = length l.self.to_come
