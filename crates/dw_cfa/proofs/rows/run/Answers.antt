use Rattle.dw_cfa.proofs.{Words.{arith, program_input}, Lent.Given.run_answers}
use Rattle.dw_cfa.proofs.rows.run.Goals as goal

pub returns : goal.returns
returns c =
    let so = run_answers c.args.factors (program_input c.args.cie_program c.args.target) (program_input c.args.fde_program c.args.target) c.args.begin c.are_bytes.ensures c.are_bytes-2.ensures (omega (arith, c.requires))
    c.new-steps.result.outcome c.new-steps.ensures.runs c.collected-rows.result (λ v. v.items) c.collected-rows.ensures.ok c.collected-rows.ensures.err in
    record { rows = so.0; only = so.2; refused = so.1 }
