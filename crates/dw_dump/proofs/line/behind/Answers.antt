use Rattle.dw_dump.proofs.Words.{Decides-eqb}
use Rattle.std.proofs.lemmas.Slice.Eq.{strip_prefix_is}
use Rattle.dw_dump.proofs.line.behind.Goals as goal

pub returns : goal.returns
returns c = strip_prefix_is Decides-eqb c.args.text.now c.args.prefix.now c.strip_prefix.result c.strip_prefix.ensures.cases
