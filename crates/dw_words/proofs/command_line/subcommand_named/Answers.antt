use Rattle.clap.specs.declared.builder.command.Command.{Command}
use Rattle.dw_words.proofs.Words.{rules, subst, new_app, text_of, App, IfOk, IsCommand}
use Rattle.dw_words.proofs.command_line.subcommand_named.Goals as goal

pub returns : goal.returns
returns c =
    let begun : IsCommand (new_app (text_of c.args.name)) c.after_help-begun.result = search rules in
    let common = c.in_ok-add_args.ensures (new_app (text_of c.args.name)) begun in
    subst (λ (app : App). IfOk c.add_args-2.result (λ (new : Command). IsCommand app new)) (c.own_args.ensures _) (c.add_args-2.ensures _ common)
