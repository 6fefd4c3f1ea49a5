use Rattle.dw_num.proofs.Words.{◌≡◌, ◌<◌, ◌^◌, take, groups}
use Rattle.dw_num.proofs.leb.short_sum.Given as goal

abbrev pub invariant-loop-i : goal.invariant-loop-i
invariant-loop-i l = record {
  total : l.total ≡ groups (take l.i l.spelling);
  small : l.total < 128 ^ l.i;
}
