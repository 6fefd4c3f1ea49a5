-- One argument more.
use Rattle.clap.specs.declared.builder.{arg.Arg.Arg, command.Command.Command}
use Rattle.dw_words.proofs.Words.{◌∙◌, ◌||◌, Bool, ap₂, AddsArg, App, IsArg, IsCommand, Rule, with_rule}

module _ (a : App) (rule : Rule) (old : Command) (arg : Arg) (h : IsCommand a old) (is : IsArg rule arg) where
  pub one_more : (new : Command) → AddsArg old arg new → IsCommand (with_rule a rule) new
  one_more new adds = (adds.shape is.1 ∙ ap₂ with_rule h.0 is.0, adds.globals ∙ ap₂ (λ (c d : Bool). c || d) h.1 is.1)
