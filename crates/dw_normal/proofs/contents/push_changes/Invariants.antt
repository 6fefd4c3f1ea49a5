use Rattle.dw_normal.specs.Inner.Puts.{SameRoom}
use Rattle.dw_normal.proofs.Words.{◌≡◌, ◌++◌, List, ℕ, length, Holds, Stand, later_bytes}
use Rattle.dw_normal.proofs.contents.push_changes.Given as goal

abbrev pub invariant-changes : goal.invariant-changes
invariant-changes l = record {
  stand : Stand l.target l.shared l.at l.changes;
  left : (front : List ℕ) → Holds l.initial.out front
      → (mid : List ℕ) × Holds l.out mid × (mid ++ later_bytes l.target l.shared l.at l.changes ≡ front ++ later_bytes l.target l.shared l.initial.at l.initial.changes);
  room : SameRoom l.initial.out l.out;
  section : l.changes.section ≡ l.initial.changes.section;
}

abbrev pub decreases-changes : goal.decreases-changes
decreases-changes l = length l.changes.to_come
