use Rattle.dw_show.proofs.Words.{◌≡◌, ◌-◌, ◌^◌, List, map, min, take, total, AreMembers, Member, change_count}
use Rattle.dw_show.proofs.section.tally.Given as goal

abbrev pub invariant-loop-place : goal.invariant-loop-place
invariant-loop-place l =
    (l.changes.section ≡ l.fn.table)
    × ((ms : List Member) → AreMembers l.fn.table.target l.fn.table.bytes ms → l.count ≡ min (total (map change_count (take l.place ms))) (2 ^ 64 - 1))
