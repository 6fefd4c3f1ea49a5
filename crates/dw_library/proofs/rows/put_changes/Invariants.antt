use Rattle.dw_library.proofs.Words.{◌≡◌, ℕ, None, List, ◌++◌, Rules, AreWritten}
use Rattle.dw_library.proofs.rows.put_changes.Given as goal

abbrev pub decreases-told : goal.decreases-told
decreases-told l = l.changes.rows

abbrev pub invariant-told : goal.invariant-told
invariant-told l =
    (l.changes.fault ≡ l.initial.changes.fault)
    × (l.initial.changes.fault ≡ None → (done : List (ℕ × Rules)) × (done ++ l.changes.to_come ≡ l.initial.changes.to_come) × AreWritten l.fde done l.initial.out l.initial.rules l.out l.rules l.totals)
