use Rattle.dw_normal.proofs.{OneByte.three_bytes, Words.rules}
use Rattle.dw_normal.proofs.instruction.push_long_with.Goals as goal

pub returns-then-value-lt16384 : goal.returns-then-value-lt16384
returns-then-value-lt16384 c = search (rules, three_bytes)
