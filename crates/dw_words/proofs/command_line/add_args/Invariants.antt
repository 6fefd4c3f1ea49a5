use Rattle.dw_words.proofs.Words.{take, App, IsCommand, with_arguments}
use Rattle.dw_words.proofs.command_line.add_args.Given as goal

abbrev pub invariant-loop-one : goal.invariant-loop-one
invariant-loop-one l = (a : App) → IsCommand a l.fn.to → IsCommand (with_arguments a (take l.one-index l.own)) l.command
