use Rattle.std.proofs.{lemmas.Grind.common_steps, Common.{◌≡◌, ◌∙◌, None, Some, arith}}
use Rattle.dw_values.specs.Inner.Values.{checked_behind}
use Rattle.dw_values.proofs.Digits.{number_is}
use Rattle.dw_values.proofs.values.number_of.Goals as goal

pub returns-in_err-number : goal.returns-in_err-number
returns-in_err-number c =
    let none : None ≡ checked_behind c.args.base 0 c.args.text.now = grind (arith, common_steps) in
    c.from_residual.ensures ∙ none ∙ number_is c.args.base c.args.text.now c.requires.base

pub returns : goal.returns
returns c =
    let all : Some c.loop-byte.number ≡ checked_behind c.args.base 0 c.args.text.now = grind (arith, common_steps) in
    all ∙ number_is c.args.base c.args.text.now c.requires.base
