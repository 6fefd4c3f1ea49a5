use Rattle.dw_section.proofs.{Words.arith, StandLaws.rest_is, StandFaults.read_here}
use Rattle.dw_section.proofs.standing_fde.piece_at.Goals as goal

pub returns : goal.returns
returns c =
    let inside = c.if-at-bytes.false in
    let rest = rest_is c.new-cursor.result c.args.target c.args.bytes.now c.args.at (omega (arith, inside)) c.new-cursor.ensures in
    let read = c.next_item.ensures in
    let all = read_here c.args.target c.args.bytes.now c.args.at c.new-cursor.result c.next_item.new.cursor c.next_item.result rest (omega (arith, inside)) read.found read.placed read.exact in
    record { found = all.0; within = all.1; fault = all.2; none = all.3; only = all.4 }
