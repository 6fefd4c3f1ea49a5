use Rattle.dw_canon.proofs.Lent.Bounds.{within_shares}
use Rattle.dw_canon.proofs.laws.length_law.Goals as goal

pub returns : goal.returns
returns c = within_shares
