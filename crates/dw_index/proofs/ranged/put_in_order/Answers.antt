use Rattle.std.proofs.{Common.{rules, true, ◌≡◌, inl, add-one}, lemmas.List.Sorted.{IsNonDecreasingBy-from_sort_by_key, answers_always}}
use Rattle.dw_index.specs.declared.ranged.Ranged.{Ranged}
use Rattle.dw_index.proofs.Ordered.{ascends_from, sorted_ascends}
use Rattle.dw_index.proofs.ranged.put_in_order.Goals as goal

pub returns-in_ok-sort_by_key-clause-ascends : goal.returns-in_ok-sort_by_key-clause-ascends
returns-in_ok-sort_by_key-clause-ascends c =
    let sort = c.in_ok-sort_by_key.ensures in
    sorted_ascends c.args.list.now.items c.sort_by_key.new.self.items c.requires sort.permutation
    (IsNonDecreasingBy-from_sort_by_key (λ (e : Ranged). e.begin) _ sort.sorted (λ a r q k. search rules))
    (sort.stable (λ (e : Ranged). e.begin) (answers_always _ _ _ (λ f a r g h. search rules)))

pub returns-else-not-begins_rise-clause-ascends : goal.returns-else-not-begins_rise-clause-ascends
returns-else-not-begins_rise-clause-ascends c =
    let yes : c.begins_rise.result ≡ true = search rules in
    let rise = rw c.deref.ensures.value at (c.begins_rise.ensures yes) in
    ascends_from c.args.list.now.items (λ k d lt. inl (rw add-one at (rise k d (rw add-one lt))))
