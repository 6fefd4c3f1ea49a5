use Rattle.dw_cfa.proofs.Walks.{same_led}
use Rattle.dw_cfa.proofs.lead.leads_same.Goals as goal

pub returns : goal.returns
returns c = λ same. same_led c.args.leading c.args.other c.are_bytes.ensures (c.is_equal.ensures same)
