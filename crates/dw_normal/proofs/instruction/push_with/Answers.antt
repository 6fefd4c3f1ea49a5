use Rattle.dw_normal.proofs.{OneByte.two_bytes, Words.rules}
use Rattle.dw_normal.proofs.instruction.push_with.Goals as goal

pub returns-then-value-lt128 : goal.returns-then-value-lt128
returns-then-value-lt128 c = search (rules, two_bytes)
