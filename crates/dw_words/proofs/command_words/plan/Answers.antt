use Rattle.dw_words.proofs.{Words.{◌≡◌, ◌∙◌, true, ap, rules, subst, map, string_bytes, err_from_is_err_and, out-Command, HasKind, app_of, found_of, rows_of, asked}, Asked.reads, Plans.{accepted, failed, refused}}
use Rattle.dw_words.proofs.command_words.plan.Goals as goal

pub returns-in-Err : goal.returns-in-Err
returns-in-Err c =
    let words = map string_bytes c.args.words.now in
    let h = reads (app_of c.in_ok-command.command) words (c.in_ok-command.ensures.0 ∙ ap asked c.asked_by.ensures) in
    refused words c.in-Err.error c.plan_of_fault.result (subst (λ ks. HasKind ks c.in-Err.error) h.3 (c.in-Err.ensures.kinds h.1)) c.plan_of_fault.ensures

pub returns-in_default : goal.returns-in_default
returns-in_default c =
    let h = reads (app_of c.in_ok-command.command) (map string_bytes c.args.words.now) (c.in_ok-command.ensures.0 ∙ ap asked c.asked_by.ensures) in
    let wants : (out-Command c.in_ok-command.command).subcommand_required ≡ true = h.2 in
    search (rules, wants)

pub returns-in_err-job : goal.returns-in_err-job
returns-in_err-job c =
    let words = map string_bytes c.args.words.now in
    let name = c.in-Some.name.now in
    let rows = rows_of (found_of c.in-Some.matches.now) in
    let made = c.in_ok-command.ensures.0 ∙ ap asked c.asked_by.ensures in
    let h = accepted (app_of c.in_ok-command.command) words c.in-Ok.matches name rows made c.in-Ok.ensures.kinds c.in-Ok.ensures.matches c.in-Some.ensures.name c.in-Some.ensures.rows in
    let p = err_from_is_err_and c.from_residual-in_err-job.result c.from_residual-in_err-job.ensures.1 in
    rw (p.1, p.2) (failed words name rows c.in_err-job.field-0.0 h.0 h.1 c.in_err-job.ensures)

pub returns : goal.returns
returns c =
    let words = map string_bytes c.args.words.now in
    let name = c.in-Some.name.now in
    let rows = rows_of (found_of c.in-Some.matches.now) in
    let made = c.in_ok-command.ensures.0 ∙ ap asked c.asked_by.ensures in
    let h = accepted (app_of c.in_ok-command.command) words c.in-Ok.matches name rows made c.in-Ok.ensures.kinds c.in-Ok.ensures.matches c.in-Some.ensures.name c.in-Some.ensures.rows in
    (h.0, name, rows, h.1, c.in_ok-job.ensures)
