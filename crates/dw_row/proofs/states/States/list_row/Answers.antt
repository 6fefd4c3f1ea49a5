use Rattle.dw_row.proofs.StatesLaws.{listed_held, listed_so}
use Rattle.dw_row.proofs.states.States.list_row.Goals as goal

pub invariant_of-self-2 : goal.invariant_of-self-2
invariant_of-self-2 c = (c.self.invariant.0, listed_so c.self.view_is c.self.invariant.1 c.push.new.self.items _ c.in_ok-push.ensures.ok c.cfa-cfa.ensures c.len-from.ensures)

pub returns-clause-remembered : goal.returns-clause-remembered
returns-clause-remembered c = listed_held c.self.view_is c.self.invariant.1 c.push.new.self.items _ c.in_ok-push.ensures.ok c.cfa-cfa.ensures c.len-from.ensures
