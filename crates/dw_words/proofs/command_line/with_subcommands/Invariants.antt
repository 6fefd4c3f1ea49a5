use Rattle.dw_words.proofs.Words.{take, IsCommand, with_subcommands}
use Rattle.dw_words.proofs.command_line.with_subcommands.Given as goal

abbrev pub invariant-loop-name : goal.invariant-loop-name
invariant-loop-name l = IsCommand (with_subcommands (take l.name-index l.names)) l.command
