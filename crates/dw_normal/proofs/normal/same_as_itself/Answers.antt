use Rattle.dw_normal.proofs.{Words.refl, Reports.is_within}
use Rattle.dw_normal.proofs.normal.same_as_itself.Goals as goal

pub returns-in-Ok-clause-found : goal.returns-in-Ok-clause-found
returns-in-Ok-clause-found c = (refl, is_within c.args.table.target 2147483647 c.args.table.bytes (c.in-Ok.ensures).found.1.short)
