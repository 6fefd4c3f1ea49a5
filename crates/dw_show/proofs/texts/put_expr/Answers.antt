use Rattle.dw_op.specs.Expression.{bare}
use Rattle.dw_show.proofs.Words.{◌≡◌, ◌∙◌, ◌++◌, ℕ, List, [], ◌∷◌, ap, arith, codes, refl, subst, sym, Adds, Op, lines, next_text, op_text, operations_text}
use Rattle.dw_show.proofs.{OpLines.{left_text, text_bare}, Puts.{kept_on, on_kept}, Lent.Endings.on, TextLines.{Leads, leads_on, leads_to}}
use Rattle.dw_show.proofs.texts.put_expr.Goals as goal

left_is : (ops : List Op) → left_text (codes "; ") ops ≡ lines next_text ops
left_is [] = refl
left_is (op ∷ ops) = refl

pub loop-op-preserved : goal.loop-op-preserved
loop-op-preserved g c =
    let op = c.in-Some.op in
    let rest = c.next.new.self in
    let between = c.loop-op.between.now in
    let here = c.loop-op.out in
    let next = c.put_op.new.listing in
    let all = operations_text c.args.expression.now.ops in
    let Left = Leads g.W.Write.contents c.text.new.self all in
    let left = subst (λ (l : List Op). Left here (left_text between l)) c.in-Some.ensures.steps c.loop-op.invariant.1 in
    let put = on g.W.Write.contents _ _ _ _ _ (kept_on g.W.Write.contents _ _ _ _ c.make_room.ensures.stays c.text-in-loop-op.ensures.adds) c.put_op.ensures in
    let part = subst (λ (t : List ℕ). Adds g.W.Write.contents here next (between ++ t)) (sym (text_bare op)) put in
    let is = c.as_slice-between-in-loop-op.ensures in
    let same = ap (λ (t : List ℕ). left_text t rest) is ∙ left_is rest in (
      rw is (omega arith),
      subst (λ (t : List ℕ). Left next t) (sym same) (leads_on g.W.Write.contents c.text.new.self all here next (between ++ op_text (bare op)) (lines next_text rest) left part),
    )

pub returns : goal.returns
returns g c =
    let all = operations_text c.args.expression.now.ops in
    let left = subst (λ (l : List Op). Leads g.W.Write.contents c.text.new.self all c.loop-op.out (left_text c.loop-op.between.now l)) c.in-None.ensures.steps.0 c.loop-op.invariant.1 in
    let ops = leads_to g.W.Write.contents c.text.new.self all c.loop-op.out left in
    let begun = on g.W.Write.contents _ _ _ _ _ c.text.ensures.adds ops in
    on g.W.Write.contents _ _ _ _ _ (on_kept g.W.Write.contents _ _ _ _ begun c.make_room-2.ensures.stays) c.text-2.ensures.adds
