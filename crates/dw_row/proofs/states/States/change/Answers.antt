use Rattle.std.specs.Option.{option_copied}
use Rattle.dw_row.proofs.StatesLaws.{changed_same, lists_more, ruled, same_held, same_so, same_states}
use Rattle.dw_row.proofs.Words.{on_err_weaker}
use Rattle.dw_row.proofs.states.States.change.Goals as goal

pub invariant_of-self-2 : goal.invariant_of-self-2
invariant_of-self-2 c =
    let s = c.self.inside in let is = c.self.view_is in let so = c.self.invariant.1 in let row' = c.set.new.current in let changes' = c.list.new.self.items in
    let same = changed_same is so c.set.result c.args.register c.from_of-from.result c.args.rule (option_copied c.last.result) row' changes' c.ascends.ensures (rw c.deref.ensures at c.last.ensures.value) c.from_of-from.ensures
    c.in_ok-list.ensures.ok c.set.ensures.ok c.set.ensures.err in
    (c.set.ensures.so, same_so is so row' c.set.new.self.row changes' same (lists_more c.from_of-from.result c.args.register _ s.changes.items changes' c.in_ok-list.ensures.ok))

pub returns-clause-changed : goal.returns-clause-changed
returns-clause-changed c =
    let is = c.self.view_is in let so = c.self.invariant.1 in let row' = c.set.new.current in let changes' = c.list.new.self.items in let kept' = c.set.new.self.row in
    let same = changed_same is so c.set.result c.args.register c.from_of-from.result c.args.rule (option_copied c.last.result) row' changes' c.ascends.ensures (rw c.deref.ensures at c.last.ensures.value) c.from_of-from.ensures
    c.in_ok-list.ensures.ok c.set.ensures.ok c.set.ensures.err in
    ruled is so c.set.result _ row' kept' c.args.register c.args.rule c.set.ensures.ok c.set.ensures.row (same_held is so row' kept' changes' same)

pub returns-clause-err : goal.returns-clause-err
returns-clause-err c =
    let is = c.self.view_is in let so = c.self.invariant.1 in let row' = c.set.new.current in let changes' = c.list.new.self.items in let kept' = c.set.new.self.row in
    let same = changed_same is so c.set.result c.args.register c.from_of-from.result c.args.rule (option_copied c.last.result) row' changes' c.ascends.ensures (rw c.deref.ensures at c.last.ensures.value) c.from_of-from.ensures
    c.in_ok-list.ensures.ok c.set.ensures.ok c.set.ensures.err in
    on_err_weaker c.set.result (λ err. same_states is so _ row' kept' err c.set.ensures.row (same_held is so row' kept' changes' same)) c.set.ensures.err
