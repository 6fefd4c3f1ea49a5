use Rattle.dw_section.proofs.Words.{ap, sym}
use Rattle.dw_section.specs.Inner.Changes.{fault_of}
use Rattle.dw_section.proofs.table.Table.no_changes.Goals as goal

pub invariant_of-result : goal.invariant_of-result
invariant_of-result c =
    let fdes = (rw (sym c.self.view_is) at c.accepted.ensures.fdes).1 in
    record { no_fault = ap fault_of c.new.ensures.steps; headers = fdes.headers; are = fdes.are; led = c.new.ensures.led fdes.headers }
