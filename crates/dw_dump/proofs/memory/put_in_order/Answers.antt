use Rattle.dw_dump.proofs.Words.{rules, IsNonDecreasingBy-from_sort_by_key, Range}
use Rattle.dw_dump.proofs.memory.put_in_order.Goals as goal

pub returns-clause-rises : goal.returns-clause-rises
returns-clause-rises c = IsNonDecreasingBy-from_sort_by_key (λ (r : Range). r.address) _ c.sort_unstable_by_key.ensures.sorted (λ a r q k. search rules)
