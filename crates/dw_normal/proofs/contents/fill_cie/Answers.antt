use Rattle.dw_normal.proofs.{Words.{◌≡◌, ◌++◌, length, refl, replicate, missing, unsized, cie_with, fixed_bytes, length-fixed}, Filled.{cie_begun, filled_is, fills_as, holds_all}, contents.fill_cie.Goals.After-push_nops}
use Rattle.dw_normal.proofs.contents.fill_cie.Goals as goal

made : (c : After-push_nops) → c.push_initial.new.out.items ++ replicate (missing c.args.target.size (length c.push_initial.new.out.items)) 0 ≡ unsized c.args.target (cie_with c.args.target (c.args.register, c.args.initial.now))
made c =
    let t = c.args.target in
    filled_is t.size (fixed_bytes t.order 4 0) _ _ c.push_initial.new.out.items _ (length-fixed t.order 4 0)
    (cie_begun _ _ (fixed_bytes t.order 4 0xffffffff) _ _ _ _ _ _ c.push_initial.new.out.items _ c.clear.ensures.items c.in_ok-put_fixed.ensures.ok c.in_ok-put_fixed-2.ensures.ok
    (rw c.byte_count.ensures at c.in_ok-extend_from_slice.ensures.items) (rw c.from.ensures at c.in_ok-push_uleb.ensures) c.in_ok-push_initial.ensures) refl

pub returns-clause-contents : goal.returns-clause-contents
returns-clause-contents c = fills_as _ _ c.push_nops.result _ _ c.push_nops.new.self refl (made (goal.at.returns-clause-contents c).After-push_nops) (c.push_nops.ensures.holds _ (holds_all _ refl))
