use Rattle.dw_words.proofs.Words.{◌∙◌, found_of, raw_values-rows}
use Rattle.dw_words.proofs.command_words.texts_of.Goals as goal

pub returns : goal.returns
returns c = c.get_strs.ensures ∙ raw_values-rows (found_of c.args.matches.now) c.args.id.now
