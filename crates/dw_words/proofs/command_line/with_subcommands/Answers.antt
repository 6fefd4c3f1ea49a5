use Rattle.clap.specs.declared.builder.command.Command.{Command}
use Rattle.dw_words.proofs.Words.{◌∙◌, ◌||◌, Bool, ap₂, get_or, take, AddsSubcommand, App, IsCommand, with_subcommand, program, Name, command_named, with_subcommands}
use Rattle.std.proofs.lemmas.List.Sums.{fold_more}
use Rattle.dw_words.specs.declared.request.Name.TheVariants.{At}
use Rattle.dw_words.proofs.command_line.with_subcommands.Goals as goal

listed : (a b : App) (old sub new : Command) → IsCommand a old → IsCommand b sub → AddsSubcommand old sub new → IsCommand (with_subcommand a b.top) new
listed a b old sub new h k adds = (adds.shape k.1 ∙ ap₂ (λ (x y : App). with_subcommand x y.top) h.0 k.0, adds.globals ∙ ap₂ (λ (c d : Bool). c || d) h.1 k.1)

pub loop-name-preserved : goal.loop-name-preserved
loop-name-preserved c =
    let names = c.args.names.now in
    let i = c.loop-name.name-index in
    let one = listed (with_subcommands (take i names)) (command_named (get_or names i At)) c.loop-name.command c.in_ok-subcommand_named.field-0 c.in_ok-command.command c.loop-name.invariant
    c.in_ok-subcommand_named.ensures c.in_ok-command.ensures in
    rw (fold_more (λ (a : App) (n : Name). with_subcommand a (command_named n).top) program names i At c.loop-name-test.true) one
