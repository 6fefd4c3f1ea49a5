use Rattle.dw_op.proofs.{Words.{length, map, refl, rules, arith, length-map, Addr, bare, get_or, InRange, below_more}, Lent.Ranges.{all_of, first_bad, not_in_range}}
use Rattle.dw_op.proofs.list.OpList.from_ops.Goals as goal

pub invariant_of-result : goal.invariant_of-result
invariant_of-result c = rw length-map (all_of (InRange c.args.target (length c.args.ops.items)) c.args.ops.items (Addr 0) (λ j lt. c.loop-index.invariant j (omega arith)))

pub returns-then-not-is_in_range-clause-first : goal.returns-then-not-is_in_range-clause-first
returns-then-not-is_in_range-clause-first c = first_bad c.args.target c.args.ops.items c.loop-index.index (Addr 0) (search rules) (search rules) c.loop-index.invariant

pub returns-then-not-is_in_range-clause-only : goal.returns-then-not-is_in_range-clause-only
returns-then-not-is_in_range-clause-only c all = absurd (not_in_range c.args.target (map bare c.args.ops.items) c.loop-index.index (returns-then-not-is_in_range-clause-first c) all)

pub returns-clause-found : goal.returns-clause-found
returns-clause-found c = (refl, rw length-map (all_of (InRange c.args.target (length c.args.ops.items)) c.args.ops.items (Addr 0) (λ j lt. c.loop-index.invariant j (omega arith))))

pub loop-index-preserved : goal.loop-index-preserved
loop-index-preserved c = below_more (λ j. InRange c.args.target (length c.args.ops.items) (bare (get_or c.args.ops.items j (Addr 0)))) c.loop-index.index c.loop-index.invariant (search rules)
