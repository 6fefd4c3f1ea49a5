use Rattle.dw_cfa.proofs.{Words.{Ok, Err, IfOk-weaker, IfErr-weaker, program_input}, Lent.Given.{leaves_to, refusal_weaker}}
use Rattle.dw_cfa.proofs.lead.become_initial.Goals as goal

pub returns-clause-ok : goal.returns-clause-ok
returns-clause-ok c = IfOk-weaker c.run_initial.result _ _ (λ u e. leaves_to c.args.factors (program_input c.args.cie_program c.args.target) c.are_bytes.ensures (Ok c.run_initial.new.row) e) c.run_initial.ensures.ok

pub returns-clause-err : goal.returns-clause-err
returns-clause-err c =
    IfErr-weaker c.run_initial.result _ _ (λ e refused. refusal_weaker e _ _ (λ r is. leaves_to c.args.factors (program_input c.args.cie_program c.args.target) c.are_bytes.ensures (Err r) is) refused) c.run_initial.ensures.err
