use Rattle.dw_show.proofs.Words.{List, take, AllZip, AreFdes, Fde, TellsOf, Adds, At, at_text, lines}
use Rattle.dw_show.proofs.rows.put_each.Given as goal

abbrev pub invariant-loop-address : goal.invariant-loop-address
invariant-loop-address g l =
    (fs : List Fde) → AreFdes l.fn.table.target l.fn.table.bytes fs
    → (found : List At) × AllZip (TellsOf l.fn.table.target l.fn.table.bytes fs) (take l.address-index l.fn.addresses) found × Adds g.W.Write.contents l.fn.out l.out (lines at_text found)
