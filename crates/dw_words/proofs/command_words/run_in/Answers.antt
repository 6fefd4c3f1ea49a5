use Rattle.dw_words.proofs.{Words.{◌∙◌, ◌≡◌, subst, sym, err_from_is_err_and, found_of, rows_of, IsTask, Text}, Jobs.{named, run_fails}}
use Rattle.dw_words.proofs.command_words.run_in.Goals as goal

pub returns-in_err-task : goal.returns-in_err-task
returns-in_err-task c =
    let values = rows_of (found_of c.args.matches.now) in
    let p = err_from_is_err_and c.from_residual-in_err-task.result c.from_residual-in_err-task.ensures.1 in
    let target = c.in_ok-target.ensures in
    rw (p.1, p.2) (run_fails c.args.text.now values c.in_ok-name.name c.in_ok-target.target c.in_err-task.field-0.0 (sym c.name_of.ensures ∙ c.in_ok-name.ensures) target.0 target.1 c.in_err-task.ensures)

pub returns : goal.returns
returns c =
    let named : c.args.text.now ≡ _ = named c.args.text.now c.in_ok-name.name (sym c.name_of.ensures ∙ c.in_ok-name.ensures) in
    let target = c.in_ok-target.ensures in
    (target.1, target.2, subst (λ (text : Text). IsTask (rows_of (found_of c.args.matches.now)) text c.in_ok-target.target.size c.in_ok-task.task) (sym named) c.in_ok-task.ensures)
