use Rattle.dw_dump.proofs.OneDump.{one_dump}
use Rattle.dw_dump.proofs.dump.dump_laws.Goals as goal

pub returns : goal.returns
returns c = one_dump
