use Rattle.dw_num.specs.declared.error.ReadError.TheVariants.{OutOfMemory, Refused}
use Rattle.dw_op.proofs.{Words.{◌≡◌, ◌∙◌, sym, ops_of}, Judgement.accepted_block}
use Rattle.dw_op.proofs.expression.ExprRef.ops.Goals as goal

pub unreachable-requires : goal.unreachable-requires
unreachable-requires c =
    let e = c.self.inside in
    let none = c.in-Err-Refused.ensures.only (ops_of e.target e.bytes.now) (accepted_block e.target e.bytes.now c.self.invariant.1 c.self.invariant.0) in
    let refused : Refused c.in-Err-Refused.field-0-0 ≡ OutOfMemory = sym c.in-Err-Refused.field-0-is ∙ none in
    cc
