use Rattle.dw_eval.proofs.{Lent.Results.{one_result, one_location}, Space.{values_in_space, locations_in_space}, Wanted.{wanted_by_value, wanted_by_location}}
use Rattle.dw_eval.proofs.laws.evaluation_laws.Goals as goal

pub returns : goal.returns
returns c = record { value = one_result; pieces = one_location; values_in_space = values_in_space; places_in_space = locations_in_space; wanted = wanted_by_value; wanted_by_places = wanted_by_location }
