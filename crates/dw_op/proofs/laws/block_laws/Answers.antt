use Rattle.dw_op.proofs.Words.{Frame, Location, least_block}
use Rattle.dw_op.specs.Laws.{LeastGivesBack}
use Rattle.dw_op.proofs.Lent.{Blocks.block_so, FaultPlaces.fault_within, LeastBlocks.{in_range_of_block, least_block_exists, block_of_least, least_no_longer}, LeastOne.least_is_one, EncodeLaws.far_has_no_block}
use Rattle.dw_op.proofs.laws.block_laws.Goals as goal

gives_back : LeastGivesBack
gives_back Frame t ops least allowed h = (block_of_least t ops least h, allowed)
gives_back Location t ops least allowed h = block_of_least t ops least h

pub returns : goal.returns
returns c = record {
  in_range = in_range_of_block;
  least_exists = λ t ops bytes b. (least_block t ops, least_block_exists t ops bytes b);
  least_is_block = block_of_least;
  least_is_shortest = least_no_longer;
  least_is_one = least_is_one;
  far = far_has_no_block;
  gives_back = gives_back;
  near = λ profile t ops bytes k block far. far_has_no_block t ops k bytes far (block_so profile t ops bytes block).0;
  within = fault_within;
}
