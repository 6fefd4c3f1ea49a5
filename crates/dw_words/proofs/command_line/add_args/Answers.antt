use Rattle.std.proofs.{Common.take_all, lemmas.List.Sums.fold_more}
use Rattle.dw_words.proofs.{Words.{List, subst, sym, App, IsCommand, Argument, rule_of, with_arguments, with_rule}, Arguments.one_more}
use Rattle.dw_words.proofs.command_line.add_args.Goals as goal

pub loop-one-preserved : goal.loop-one-preserved
loop-one-preserved c = λ a h.
    let more = fold_more (λ (app : App) (own : Argument). with_rule app (rule_of own)) a c.args.own.now c.loop-one.one-index _ c.loop-one-test.true in
    subst (λ (app : App). IsCommand app c.in_ok-command.command) (sym more) (one_more _ _ _ _ (c.loop-one.invariant a h) c.arg_of.ensures _ c.in_ok-command.ensures)

pub returns : goal.returns
returns c = λ a h. subst (λ (all : List Argument). IsCommand (with_arguments a all) c.loop-one.command) (take_all _ _ c.loop-one-test.false) (c.loop-one.invariant a h)
