use Rattle.dw_frame.proofs.{FaultColumns.faults_in_row, OneFrame.one_of_row, SomeFrame.some_of_row, Wanted.wanted_of_row}
use Rattle.dw_frame.proofs.laws.frame_laws.Goals as goal

pub returns : goal.returns
returns c = record {
  one = λ c limit policy row return_register answer other. one_of_row c limit policy row return_register answer other;
  some = some_of_row c.evaluation_laws.ensures.value c.block_laws.ensures.in_range;
  column = faults_in_row;
  wanted = wanted_of_row c.evaluation_laws.ensures.wanted;
}
