use Rattle.dw_show.proofs.Words.{◌≡◌, List, take, AreMembers, Member, Adds, member_text, lines}
use Rattle.dw_show.proofs.rows.put_fdes.Given as goal

abbrev pub invariant-loop-place : goal.invariant-loop-place
invariant-loop-place g l =
    (l.changes.section ≡ l.fn.table)
    × ((ms : List Member) → AreMembers l.fn.table.target l.fn.table.bytes ms → Adds g.W.Write.contents l.fn.out l.out (lines member_text (take l.place ms)))
