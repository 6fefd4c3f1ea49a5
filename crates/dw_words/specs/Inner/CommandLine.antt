-- What the code and its proofs say beside CommandLine.
use Rattle.std.specs.Prelude.{◌≡◌, true, false, List, [], ◌∷◌, Option, Some, None, codes, fold}
use Rattle.clap.specs.Words as clap_words
use Rattle.clap.specs.Words.{App, Rule, Text, app_of, new_app, with_rule, with_subcommand}
use Rattle.clap.specs.declared.builder.{arg.Arg.Arg, command.Command.Command, command.Command.TheViews.out-Command}
use Rattle.dw_words.specs.{CommandLine.{dwframe, file, flag, operand, operands, option, program}, Inner.Plan.text_of, declared.request.Name.Name}
use Rattle.dw_words.specs.declared.command_line.Argument.{Argument}
use Rattle.dw_words.specs.declared.command_line.Argument.TheVariants as arguments
use Rattle.dw_words.specs.declared.request.Name.TheVariants as names

-- an argument has this rule, and is no global one
abbrev pub IsArg : Rule → Arg → Type 0
IsArg rule a = (clap_words.rule_of a ≡ rule) × (a.global ≡ false)

-- a command is this one, and has no global argument
abbrev pub IsCommand : App → Command → Type 0
IsCommand app c = (app_of c ≡ app) × ((out-Command c).has_globals ≡ false)

-- ---- the command line as the code puts it together

abbrev pub command : Text → List Rule → App
command name rules = fold with_rule (new_app name) (option true (codes "size") ∷ option true (codes "order") ∷ rules)

-- the arguments that only this subcommand has
abbrev pub own_rules : Name → List Rule
own_rules names.At = file ∷ operands (codes "ADDRESS") ∷ []
own_rules names.Eval = option false (codes "steps") ∷ option false (codes "start") ∷ operand true (codes "HEX") ∷ operand false (codes "DUMP") ∷ []
own_rules names.Expr = flag (codes "frame") ∷ operand true (codes "HEX") ∷ []
own_rules names.Normal = option false (codes "cap") ∷ file ∷ []
own_rules names.Same = file ∷ operand true (codes "FILE2") ∷ []
own_rules names.Unwind = option true (codes "default") ∷ option false (codes "steps") ∷ file ∷ operand true (codes "DUMP") ∷ []
own_rules _ = file ∷ []

-- what the code's table says of an argument
abbrev pub rule_of : Argument → Rule
rule_of (arguments.Option name required value help) = option required name.now
rule_of (arguments.Flag name help) = flag name.now
rule_of (arguments.Operand name required help) = operand required name.now
rule_of (arguments.Operands name help) = operands name.now

-- a command with these arguments behind its own
abbrev pub with_arguments : App → List Argument → App
with_arguments = fold (λ app own. with_rule app (rule_of own))

abbrev pub command_named : Name → App
command_named name = command (text_of name) (own_rules name)

-- the command with these subcommands
abbrev pub with_subcommands : List Name → App
with_subcommands = fold (λ a name. with_subcommand a (command_named name).top) program

-- where words begin with a subcommand's name, the command with that one alone
abbrev pub asked : Option Name → App
asked None = dwframe
asked (Some name) = with_subcommands (name ∷ [])
