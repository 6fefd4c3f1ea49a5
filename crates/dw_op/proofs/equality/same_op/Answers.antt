use Rattle.dw_op.proofs.{Words.{sym, ◌∙◌}, Lent.Lines.{same_op, op_same, line_decides}}
use Rattle.dw_op.proofs.equality.same_op.Goals as goal

pub returns : goal.returns
returns c =
    let x = c.in_line.result in
    let y = c.in_line-2.result in
    let d = line_decides x.0 x.1 x.2 x.3 x.4.now y.0 y.1 y.2 y.3 y.4.now in (
      λ h. same_op c.args.a c.args.b (sym c.in_line.ensures ∙ d.0 (sym c.eq.ensures ∙ h) ∙ c.in_line-2.ensures),
      λ e. c.eq.ensures ∙ d.1 (c.in_line.ensures ∙ op_same c.args.a c.args.b e ∙ sym c.in_line-2.ensures),
    )
