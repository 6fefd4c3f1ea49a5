use Rattle.dw_words.proofs.Words.{◌∙◌, found_of, first_value-rows}
use Rattle.dw_words.proofs.command_words.text_of.Goals as goal

pub returns : goal.returns
returns c = c.get_str.ensures ∙ first_value-rows (found_of c.args.matches.now) c.args.id.now
