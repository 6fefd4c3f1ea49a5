use Rattle.dw_eval.proofs.{Words.{option_map, ap, bare_place, state_of}, PlaceSteps.free_acts}
use Rattle.dw_eval.proofs.description.Description.step.Goals as goal

pub returns-in_default : goal.returns-in_default
returns-in_default g c =
    let d = c.in_default in
    record {
      same = c.act.ensures.same;
      so = free_acts _ c.args.op.now (state_of c.args.index c.args.self.now) _ c.act.result _ _ _ (ap (option_map bare_place) c.in-None.is) d.not-Reg d.not-Piece d.not-BitPiece d.not-Implicit d.not-StackValue c.act.ensures.acts c.reached.ensures;
    }
