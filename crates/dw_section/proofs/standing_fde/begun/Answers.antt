use Rattle.dw_section.proofs.{Words.{get_or, rules, arith, nat_le, leb-true, leb-false, IsPartitionPoint-from_clause, IsPartitionedBy-leb, Ranged}, Lent.FdeLookup.begins_ascend}
use Rattle.dw_section.proofs.standing_fde.begun.Goals as goal

pub returns-clause-divides : goal.returns-clause-divides
returns-clause-divides c = λ up.
    let xs = c.args.index.now in
    let point = IsPartitionPoint-from_clause (λ (x : Ranged). nat_le x.begin c.args.address) xs c.partition_point.result c.partition_point.ensures.partitioned
    (IsPartitionedBy-leb (λ (x : Ranged). x.begin) xs c.args.address (begins_ascend xs up)) (λ a r f' k. search rules) in (
      λ k d lt. leb-true (get_or xs k d).begin c.args.address (point.0 k d (omega (arith, c.partition_point.ensures.bound)) lt),
      λ k d le lt. leb-false (get_or xs k d).begin c.args.address (point.1 k d le lt),
    )
