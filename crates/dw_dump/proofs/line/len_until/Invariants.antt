use Rattle.dw_dump.proofs.Words.{◌≡◌, ◌+◌, drop, len_until}
use Rattle.dw_dump.proofs.line.len_until.Given as goal

abbrev pub invariant-loop-i : goal.invariant-loop-i
invariant-loop-i l = len_until l.kind l.text ≡ l.i + len_until l.kind (drop l.i l.text)
