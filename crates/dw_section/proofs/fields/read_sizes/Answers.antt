use Rattle.dw_section.proofs.{Words.{◌≡◌, ◌==◌, arith, field, fixed, unless, sizes, fields_at, SegmentSelector}, Lent.FieldTable.{refused_on, passes_then}}
use Rattle.dw_section.proofs.fields.read_sizes.Goals as goal

pub returns-in_err-want_byte : goal.returns-in_err-want_byte
returns-in_err-want_byte c = λ rest.
    let four : c.args.version ≡ 4 = omega arith in
    let stuck = rw c.byte_count.ensures at (c.in_err-want_byte.ensures (field (fixed 1) (λ k. unless (k == 0) SegmentSelector) (λ k. rest))) in
    refused_on c.from_residual.result (fields_at (sizes c.args.size c.args.version rest) c.args.cursor.now) _ c.from_residual.ensures.1 (rw four stuck)

pub returns : goal.returns
returns c = λ rest.
    let four : c.args.version ≡ 4 = omega arith in
    let one = rw c.byte_count.ensures at (c.in_ok-want_byte.ensures (field (fixed 1) (λ k. unless (k == 0) SegmentSelector) (λ k. rest))) in
    passes_then c.want_byte-2.result (fields_at (sizes c.args.size c.args.version rest) c.args.cursor.now) _ _ (rw four one) (c.want_byte-2.ensures rest)
