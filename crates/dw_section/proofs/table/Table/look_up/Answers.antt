use Rattle.dw_section.proofs.{Words.sym, RowLookup.found_in}
use Rattle.dw_section.proofs.table.Table.look_up.Goals as goal

pub returns-in-Ok-clause-found : goal.returns-in-Ok-clause-found
returns-in-Ok-clause-found c = rw (← c.self.view_is) (λ fs are. found_in _ _ _ _ _ c.in-Ok.found (c.in-Ok.ensures.own (rw (sym c.self.view_is) at c.index.ensures)) c.in-Ok.ensures.found fs are)
