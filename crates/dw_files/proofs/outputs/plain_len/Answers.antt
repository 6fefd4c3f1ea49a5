use Rattle.dw_files.proofs.Shows.{plain_of}
use Rattle.dw_files.proofs.outputs.plain_len.Goals as goal

pub returns : goal.returns
returns c = plain_of c.args.bytes.now c.first_order.result c.unwrap_or.result c.first_order.ensures c.unwrap_or.ensures
