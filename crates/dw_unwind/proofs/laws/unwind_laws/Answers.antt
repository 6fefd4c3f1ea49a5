use Rattle.dw_unwind.proofs.{FaultColumns.faults_in_frame, OneFrame.one_frame, SomeFrame.some_frame, Wanted.wanted_is_missing}
use Rattle.dw_unwind.proofs.laws.unwind_laws.Goals as goal

pub returns : goal.returns
returns c =
    let rows = c.frame_laws.ensures in
    let laws = c.section_laws.ensures in
    let one = one_frame rows.one laws.headers laws.order laws.fdes laws.rules in
    record {
      frame = one;
      some = some_frame rows.some laws.listed laws.ruled laws.fit laws.set one;
      column = faults_in_frame rows.column;
      wanted = wanted_is_missing rows.wanted;
    }
