use Rattle.dw_show.proofs.Words.{◌≡◌, ◌+◌, drop, line_len}
use Rattle.dw_show.proofs.rows.line_len.Given as goal

abbrev pub invariant-loop-i : goal.invariant-loop-i
invariant-loop-i l = line_len l.text ≡ l.i + line_len (drop l.i l.text)
