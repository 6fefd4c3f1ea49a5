-- The command line, as clap defines a simple command: the subcommands with their options and operands.
use Rattle.std.specs.Prelude.{Bool, true, false, List, [], ◌∷◌, Some, codes, fold}
use Rattle.clap.specs.Words.{App, Rule, Shape, Text, new_app, new_rule, with_rule, with_subcommand}
use Rattle.clap.specs.declared.builder.ArgAction.TheVariants.{Append, Set, SetTrue}

-- an option with a value, such as `--cap L`, which has to be there or may be
abbrev pub option : Bool → Text → Rule
option required name = record (new_rule name) { long = Some name; action = Some Set; value_names = 1; required = required }

-- an option without a value
abbrev pub flag : Text → Rule
flag name = record (new_rule name) { long = Some name; action = Some SetTrue }

-- a word of its own, which has to be there or may be
abbrev pub operand : Bool → Text → Rule
operand required name = record (new_rule name) { required = required; action = Some Set }

-- words of their own, any number of them
abbrev pub operands : Text → Rule
operands name = record (new_rule name) { action = Some Append }

abbrev pub file : Rule
file = operand true (codes "FILE")

-- a subcommand: its own arguments stand behind the options that each of them has
abbrev pub subcommand : Text → List Rule → Shape
subcommand name rules = (fold with_rule (new_app name) (option true (codes "size") ∷ option true (codes "order") ∷ rules)).top

-- the command without subcommands: it wants one, and has `--version`
abbrev pub program : App
program = record (new_app (codes "dwframe")) { top = record (new_app (codes "dwframe")).top { has_version = true; subcommand_required = true } }

abbrev pub dwframe : App
dwframe = fold with_subcommand program (
    subcommand (codes "check") (file ∷ [])
    ∷ subcommand (codes "rows") (file ∷ [])
    ∷ subcommand (codes "at") (file ∷ operands (codes "ADDRESS") ∷ [])
    ∷ subcommand (codes "entries") (file ∷ [])
    ∷ subcommand (codes "expr") (flag (codes "frame") ∷ operand true (codes "HEX") ∷ [])
    ∷ subcommand (codes "eval") (option false (codes "steps") ∷ option false (codes "start") ∷ operand true (codes "HEX") ∷ operand false (codes "DUMP") ∷ [])
    ∷ subcommand (codes "unwind") (option true (codes "default") ∷ option false (codes "steps") ∷ file ∷ operand true (codes "DUMP") ∷ [])
    ∷ subcommand (codes "normal") (option false (codes "cap") ∷ file ∷ [])
    ∷ subcommand (codes "same") (file ∷ operand true (codes "FILE2") ∷ [])
    ∷ subcommand (codes "cost") (file ∷ [])
    ∷ [])
