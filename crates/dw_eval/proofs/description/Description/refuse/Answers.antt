use Rattle.dw_eval.proofs.{Words.place_start, PlaceSteps.refusal_so}
use Rattle.dw_eval.proofs.description.Description.refuse.Goals as goal

pub returns : goal.returns
returns c byte = refusal_so _ c.calculate.result c.calculate.new.stack _ (λ k. place_start) _ (c.calculate.ensures byte) c.refusal-2.ensures
