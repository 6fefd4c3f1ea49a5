use Rattle.std.proofs.lemmas.Grind.{common_steps}
use Rattle.dw_eval.proofs.{Words.{◌<◌, length, Ok, Err, inr, arith, option_map, Fault, MissingPiece, bare_place}, PlaceSteps.behind_pieces}
use Rattle.dw_eval.proofs.description.Description.finish.Goals as goal

pub returns-then-leaves_some : goal.returns-then-leaves_some
returns-then-leaves_some c =
    let some : 0 < length c.args.self.pieces.items = grind (arith, common_steps) in
    inr (rw c.at.ensures (behind_pieces c.args.len (option_map bare_place c.args.self.pending) c.args.self.stack c.args.self.pieces.items (λ pieces. Err (Fault MissingPiece c.args.len)) some (c.leaves_some.ensures.some c.if-leaves_some.true c.args.len)))

pub returns : goal.returns
returns c =
    let some : 0 < length c.args.self.pieces.items = grind (arith, common_steps) in
    behind_pieces c.args.len (option_map bare_place c.args.self.pending) c.args.self.stack c.args.self.pieces.items (λ pieces. Ok pieces) some (c.leaves_some.ensures.none c.if-leaves_some.false c.args.len)
