use Rattle.dw_op.proofs.{Words.{ℕ, ◌<◌, drop, map, get_or, Addr, bare, branch_target, blank_parts, BranchFits}, Lent.EncodeLaws.IsGoing}
use Rattle.dw_op.proofs.least_block.push_ops.Given as goal

abbrev pub invariant-loop-index : goal.invariant-loop-index
invariant-loop-index l = record { going : IsGoing l.target (map bare l.ops) l.fn.out.items l.index (drop l.index (map bare l.ops)) l.out.items; fits : (j : ℕ) → j < l.index → BranchFits (blank_parts l.target (map bare l.ops)) j (branch_target (bare (get_or l.ops j (Addr 0)))) }
