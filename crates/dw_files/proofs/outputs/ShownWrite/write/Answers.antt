use Rattle.dw_files.proofs.Shows.{plain_stays}
use Rattle.dw_files.proofs.outputs.ShownWrite.write.Goals as goal

pub returns-then-plain-gt0-clause-shown : goal.returns-then-plain-gt0-clause-shown
returns-then-plain-gt0-clause-shown g c = rw (plain_stays c.args.bytes.now c.plain_len-plain.result c.plain_len-plain.ensures) c.in_ok-write_all.ensures.bytes
