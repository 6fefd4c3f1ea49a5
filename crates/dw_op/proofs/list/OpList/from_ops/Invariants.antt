use Rattle.dw_op.proofs.Words.{ℕ, ◌<◌, length, get_or, Addr, bare, InRange}
use Rattle.dw_op.proofs.list.OpList.from_ops.Given as goal

abbrev pub invariant-loop-index : goal.invariant-loop-index
invariant-loop-index l = (j : ℕ) → j < l.index → InRange l.target (length l.fn.ops.items) (bare (get_or l.fn.ops.items j (Addr 0)))
