use Rattle.dw_normal.proofs.Words.{refl, arith, ◌≡◌, ◌++◌, ◌≤◌, length, length-append, replicate, fixed_bytes, length-fixed, missing, unsized, Member, List, IsBegun, later_bytes, ap}
use Rattle.dw_normal.proofs.{Filled.{fde_filled, fills_as, fills_more, holds_all}, contents.fill_fde.Goals.After-push_changes}
use Rattle.dw_normal.specs.Inner.Places.{fde_at}
use Rattle.dw_normal.proofs.contents.fill_fde.Goals as goal

-- what is built is the FDE
made : (c : After-push_changes) (ms : List Member) (m : Member) → IsBegun ms m c.args.begun.now
    → (c.push_first.new.out.items ++ later_bytes c.args.target c.args.begun.now.shared.now c.args.begun.now.fde.begin c.args.begun.now.changes)
    ++ replicate (missing c.args.target.size (length (c.push_first.new.out.items ++ later_bytes c.args.target c.args.begun.now.shared.now c.args.begun.now.fde.begin c.args.begun.now.changes))) 0
    ≡ unsized c.args.target (fde_at c.args.target c.args.begun.now.cie_at ms m)
made c ms m is =
    let t = c.args.target in
    fde_filled t ms m c.args.begun.now c.args.begun.now.cie_at c.args.begun.now.fde.begin (fixed_bytes t.order 4 0) c.begin_fde_entry.new.out.items c.push_first.new.out.items _ _ is refl
    (length-fixed t.order 4 0) (rw c.from-begin.ensures at c.in_ok-begin_fde_entry.ensures) c.in_ok-push_first.ensures.put refl refl

pub returns-in_err-push_changes-clause-contents : goal.returns-in_err-push_changes-clause-contents
returns-in_err-push_changes-clause-contents c = λ ms m is.
    let front = c.push_first.new.out.items ++ later_bytes c.args.target c.args.begun.now.shared.now c.args.begun.now.fde.begin c.args.begun.now.changes in
    let whole = made (goal.at.returns-in_err-push_changes-clause-contents c).After-push_changes ms m is in
    let le : length front ≤ length (unsized c.args.target (fde_at c.args.target c.args.begun.now.cie_at ms m)) = omega (arith, ap length whole, length-append front (replicate (missing c.args.target.size (length front)) 0)) in
    fills_more front _ c.from_residual-in_err-push_changes.result _ _ _ _ c.from_residual-in_err-push_changes.ensures.1 refl le (c.in_err-push_changes.ensures.contents _ (holds_all _ refl))

pub push_nops-requires-clause-within : goal.push_nops-requires-clause-within
push_nops-requires-clause-within c = (c.in_ok-push_changes.ensures.contents _ (holds_all _ refl)).within

pub returns-clause-contents : goal.returns-clause-contents
returns-clause-contents c = λ ms m is.
    fills_as _ _ c.push_nops.result _ _ c.push_nops.new.self c.in_ok-push_changes.ensures.room.0 (made (goal.at.returns-clause-contents c).After-push_changes ms m is)
    (c.push_nops.ensures.holds _ (c.in_ok-push_changes.ensures.contents _ (holds_all _ refl)))
