use Rattle.dw_row.specs.declared.kept_row.KeptRow.{KeptRow}
use Rattle.dw_row.proofs.{Words.{false, refl}, StatesLaws.{begun_held, begun_so}}
use Rattle.dw_row.proofs.states.States.track.Goals as goal

pub invariant_of-self : goal.invariant_of-self
invariant_of-self c =
    (c.self.invariant.0, begun_so c.args.tracked c.args.tracked (λ off. off) _ c.self.inside.row.registers c.clear.new.self.items c.forget.new.remembered.items c.clear.ensures c.forget.ensures refl)

pub returns : goal.returns
returns c =
    let s = c.self.inside in let saved : KeptRow = record { row = s.saved.row; changed = s.saved.changed; watched = false } in
    rw (← c.self.view_is) (begun_held c.args.tracked saved s.row s.kept.row c.clear.new.self.items c.forget.new.remembered.items c.clear.ensures c.forget.ensures refl)
