use Rattle.dw_dump.proofs.Words.{◌≡◌, ◌<◌, ◌^◌, drop, number_behind}
use Rattle.dw_dump.proofs.line.number_in.Given as goal

abbrev pub invariant-loop-c : goal.invariant-loop-c
invariant-loop-c l = record {
  small : l.number < 16 ^ l.c-index;
  rest : number_behind l.base 0 l.text ≡ number_behind l.base l.number (drop l.c-index l.text);
}
