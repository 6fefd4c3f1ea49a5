use Rattle.dw_normal.proofs.Words.{◌≡◌, ℕ, ◌*◌, ◌≤◌, List, take, IfSome, AreFdes, Fde, Shares, Member, AreMembers, HasJoined, initial_rows, Agree}
use Rattle.dw_normal.proofs.groups.gather.Given as goal

abbrev pub invariant-fdes : goal.invariant-fdes
invariant-fdes l =
    ((ms : List Member) → AreMembers l.fn.table.target l.fn.table.bytes ms → l.rows.entries ≡ initial_rows (take l.place ms))
    × IfSome l.total (λ (n : ℕ). n ≤ 24 * l.cap)
    × ((fs : List Fde) → AreFdes l.fn.table.target l.fn.table.bytes fs → IfSome l.total (λ (n : ℕ). Shares l.fn.table.target l.fn.table.bytes (take l.place fs) n))
    × (l.changes.section ≡ l.fn.table)
    × HasJoined l.fn.table.target l.fn.table.bytes l.rows.entries l.joined
    × Agree l.fn.table l.rows.entries l.known.cies
