use Rattle.dw_op.proofs.{Words.{arith, ap, err_from_is_err_and, bare, bare_step, block_input}, Judgement.{read_plain, read_jump, read_end, read_plain_end, read_stuck}}
use Rattle.dw_op.proofs.block.has_branch.Goals as goal

pub returns-in_err-next_step-clause-first : goal.returns-in_err-next_step-clause-first
returns-in_err-next_step-clause-first c =
    let p = err_from_is_err_and c.from_residual.result c.from_residual.ensures.1 in
    rw (p.1, p.2) (read_stuck c.args.profile (block_input c.args.target c.args.bytes.now) c.ops.cursor c.ops.found c.ops.invariant c.in_err-next_step.field-0.0 (omega arith) c.in_err-next_step.ensures)

pub ops-preserved-in-Plain : goal.ops-preserved-in-Plain
ops-preserved-in-Plain c =
    read_plain c.args.profile (block_input c.args.target c.args.bytes.now) c.ops.cursor c.ops.found c.ops.invariant c.next_step.new.cursor (bare_step c.in_ok-next_step.field-0) (bare c.in-Plain.field-0) c.in_ok-next_step.ensures (ap bare_step c.in-Plain.is)

pub returns-clause-plain : goal.returns-clause-plain
returns-clause-plain c = read_plain_end c.args.profile c.args.target c.args.bytes.now c.ops.cursor c.ops.found c.ops.invariant (omega arith)

pub returns-clause-read : goal.returns-clause-read
returns-clause-read c = read_end c.args.profile (block_input c.args.target c.args.bytes.now) c.ops.cursor c.ops.found c.ops.invariant (omega arith)

pub ops-preserved : goal.ops-preserved
ops-preserved c = read_jump c.args.profile (block_input c.args.target c.args.bytes.now) c.ops.cursor c.ops.found c.ops.invariant c.next_step.new.cursor (bare_step c.in_ok-next_step.field-0) c.in_ok-next_step.ensures
