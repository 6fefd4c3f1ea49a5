use Rattle.std.proofs.Common.{◌≡◌, drop}
use Rattle.dw_values.specs.Inner.Values.{checked_behind}
use Rattle.dw_values.proofs.values.number_of.Given as goal

abbrev pub invariant-loop-byte : goal.invariant-loop-byte
invariant-loop-byte l = checked_behind l.base 0 l.text ≡ checked_behind l.base l.number (drop l.byte-index l.text)
