use Rattle.dw_eval.proofs.{Words.{refl, first_held}, RegisterLaws.none_so}
use Rattle.dw_eval.proofs.registers.Registers.new.Goals as goal

pub invariant_of-result : goal.invariant_of-result
invariant_of-result c = none_so c.new.result.items c.new.ensures.items

pub returns : goal.returns
unfolding first_held
returns c = refl
