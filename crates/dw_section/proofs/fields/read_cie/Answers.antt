use Rattle.dw_section.proofs.{Words.{◌∙◌, empty_string, sizes, factors, behind_id, fields_at}, Lent.FieldTable.{refused_on, passes_then}}
use Rattle.dw_section.proofs.fields.read_cie.Goals as goal

pub returns-in_err-version : goal.returns-in_err-version
returns-in_err-version c = refused_on c.from_residual.result (fields_at (behind_id c.args.size) c.args.cursor.now) _ c.from_residual.ensures.1 (c.in_err-version.ensures (λ n. empty_string (sizes c.args.size n (factors n))))

pub returns-in_err-empty_string : goal.returns-in_err-empty_string
returns-in_err-empty_string c =
    let n = c.in_ok-version.version in
    let read = c.in_ok-version.ensures (λ n. empty_string (sizes c.args.size n (factors n))) in
    refused_on c.from_residual-in_err-empty_string.result (fields_at (behind_id c.args.size) c.args.cursor.now) _ c.from_residual-in_err-empty_string.ensures.1 (read ∙ c.in_err-empty_string.ensures (sizes c.args.size n (factors n)))

pub returns-in_err-read_sizes : goal.returns-in_err-read_sizes
returns-in_err-read_sizes c =
    let n = c.in_ok-version.version in
    let read = c.in_ok-version.ensures (λ n. empty_string (sizes c.args.size n (factors n))) ∙ c.in_ok-empty_string.ensures (sizes c.args.size n (factors n)) in
    refused_on c.from_residual-in_err-read_sizes.result (fields_at (behind_id c.args.size) c.args.cursor.now) _ c.from_residual-in_err-read_sizes.ensures.1 (read ∙ c.in_err-read_sizes.ensures (factors n))

pub returns : goal.returns
returns c =
    let n = c.in_ok-version.version in
    let read = c.in_ok-version.ensures (λ n. empty_string (sizes c.args.size n (factors n))) ∙ c.in_ok-empty_string.ensures (sizes c.args.size n (factors n)) ∙ c.in_ok-read_sizes.ensures (factors n) in
    passes_then c.read_factors.result (fields_at (behind_id c.args.size) c.args.cursor.now) _ _ read c.read_factors.ensures
