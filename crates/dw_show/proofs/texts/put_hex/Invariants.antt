use Rattle.dw_show.proofs.Words.{take, encode_lower, Adds}
use Rattle.dw_show.proofs.texts.put_hex.Given as goal

abbrev pub invariant-loop-byte : goal.invariant-loop-byte
invariant-loop-byte g l = Adds g.W.Write.contents l.fn.listing l.listing (encode_lower (take l.byte-index l.fn.bytes))
