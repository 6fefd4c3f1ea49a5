use Rattle.dw_op.specs.{Block.Block, Faults.IsBlock, Least.LeastBlock, declared.op.Op.Op, declared.profile.Profile.{Profile, TheVariants.{Frame, Location}}}
use Rattle.dw_op.specs.declared.least_block.EncodeError.TheVariants.{BranchTooFar, OutOfMemory}
use Rattle.dw_show.proofs.{Words.{◌≡◌, ◌++◌, ◌∙◌, ℕ, List, ap, inl, subst, sym, Adds, Target, least_text, numbered}, OpLines.numbered_bare, Lent.Endings.{on, printed}}
use Rattle.dw_show.proofs.expression.run_expr.Goals as goal

block_so : (profile : Profile) (t : Target) (ops : List Op) (bytes : List ℕ) → IsBlock profile t ops bytes → Block t ops bytes
block_so Frame t ops bytes h = h.0
block_so Location t ops bytes h = h

pub unreachable-requires : goal.unreachable-requires
unreachable-requires g c =
    let found = c.in_ok-list.ensures.found in
    let list = c.in_ok-list.list in
    let block = subst (λ (t : Target). Block t list.ops c.args.block.now) (sym found.0) (block_so c.args.profile c.args.target list.ops c.args.block.now found.1) in
    let none = c.in-Err-BranchTooFar.ensures.only c.args.block.now block in
    let far : BranchTooFar c.in-Err-BranchTooFar.field-0-0 ≡ OutOfMemory = sym c.in-Err-BranchTooFar.field-0-is ∙ none in
    cc

pub returns : goal.returns
returns g c =
    let found = c.in_ok-list.ensures.found in
    let list = c.in_ok-list.list in
    let least = c.deref.result.now in
    let spelled = subst (λ (b : List ℕ). LeastBlock list.target list.ops b) (sym c.deref.ensures.value) c.in-Ok.ensures.ok in
    let bare = ap (numbered 0) (sym c.ops.ensures.same) ∙ numbered_bare 0 c.ops.result.now in
    let put = subst (λ (t : List ℕ). Adds g.W.Write.contents c.args.out.now c.put_least.new.out (t ++ least_text least)) (sym bare) (on g.W.Write.contents _ _ _ _ _ c.put_lines.ensures c.put_least.ensures) in
    let prints = printed g.W.Write.contents _ _ _ _ c.finish.result c.requires.works put c.finish.ensures.ends in
    inl ((list.ops, least), (found.1, subst (λ (t : Target). LeastBlock t list.ops least) found.0 spelled), prints)
