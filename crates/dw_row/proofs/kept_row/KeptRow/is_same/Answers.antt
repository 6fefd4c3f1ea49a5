use Rattle.dw_row.proofs.Marked.{other_mask}
use Rattle.dw_row.proofs.kept_row.KeptRow.is_same.Goals as goal

pub returns-then-near_mask : goal.returns-then-near_mask
returns-then-near_mask c =
    let own = c.near_mask.ensures in let other = c.near_mask-2.ensures in
    let differ = other_mask c.args.self.now.row c.args.current.now c.near_mask.result c.near_mask-2.result
    (own.none, own.all) (other.none, other.all) c.near_mask.type_inv c.near_mask-2.type_inv c.if-near_mask.true in
    (λ t. absurd cc, λ same. absurd (differ same))
