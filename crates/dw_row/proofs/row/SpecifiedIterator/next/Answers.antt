use Rattle.dw_row.proofs.{Words.{rules, ◌∙◌, sym}, Slots.{next_used, none_used}}
use Rattle.dw_row.proofs.row.SpecifiedIterator.next.Goals as goal

pub returns-in-Some-clause-steps : goal.returns-in-Some-clause-steps
returns-in-Some-clause-steps c =
    let w = c.self.inside in
    sym c.self.view_is ∙ next_used w.used _ w.slots.now w.expressions.now.entries c.self.invariant.1 c.without_first-self-inside.ensures _ c.in-Some.next c.in-Some.ensures _ c.get-slot.ensures _ c.rule_of.ensures

pub returns-in-Some-clause-goes : goal.returns-in-Some-clause-goes
returns-in-Some-clause-goes c = rw (returns-in-Some-clause-steps c) (search rules)

pub returns-clause-steps : goal.returns-clause-steps
returns-clause-steps c = search (rules, none_used)

pub returns-clause-goes : goal.returns-clause-goes
returns-clause-goes c = rw (returns-clause-steps c) (search rules)
