use Rattle.dw_row.proofs.{Words.{◌≡◌, ap, ◌∙◌, Some, None, Option, unwrap_or, option_copied, RegRule, Unspecified}, WideRows.found_is}
use Rattle.dw_row.proofs.tree.rule_in_tree.Goals as goal

pub returns-in-Some : goal.returns-in-Some
returns-in-Some c =
    let got : Some c.copied.result ≡ option_copied c.get.result = cc in
    ap (λ (o : Option RegRule). unwrap_or o Unspecified) (got ∙ c.get.ensures.value) ∙ found_is c.args.register c.args.entries.now.entries

pub returns-in-None : goal.returns-in-None
returns-in-None c =
    let got : None ≡ option_copied c.get.result = cc in
    ap (λ (o : Option RegRule). unwrap_or o Unspecified) (got ∙ c.get.ensures.value) ∙ found_is c.args.register c.args.entries.now.entries
