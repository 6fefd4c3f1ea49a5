use Rattle.dw_show.proofs.{Words.{◌≡◌, ℕ, suc, ◌+◌, List, ◌++◌, codes, decimal, drop, get_or, subst, arith, drop_more, Op, Addr, op_text, line_end, numbered}, Puts.{kept_on, on_kept}, Lent.Endings.on, TextLines.{Leads, leads_on}}
use Rattle.dw_show.proofs.expression.put_lines.Goals as goal

pub loop-index-preserved : goal.loop-index-preserved
loop-index-preserved g c =
    let ops = c.args.ops.now in
    let i = c.loop-index.index in
    let Left = Leads g.W.Write.contents c.args.out.now (numbered 0 ops) in
    let op = get_or ops i (Addr 0) in
    let inv = subst (λ (l : List Op). Left c.loop-index.out (numbered i l)) (drop_more ops i (Addr 0) c.loop-index-test.true) c.loop-index.invariant in
    let line = decimal i ++ codes " " ++ op_text op ++ line_end in
    let e : suc i ≡ i + 1 = omega arith in
    let begun = on g.W.Write.contents _ _ _ _ _ (kept_on g.W.Write.contents _ _ _ _ c.make_room.ensures.stays c.decimal.ensures.adds) c.text.ensures.adds in
    let put = on_kept g.W.Write.contents _ _ _ _ (on g.W.Write.contents _ _ _ _ _ begun c.put_op.ensures) c.make_room-in-loop-index.ensures.stays in
    subst (λ (k : ℕ). Left c.text-in-loop-index.new.self (numbered k (drop (i + 1) ops))) e
    (leads_on g.W.Write.contents c.args.out.now (numbered 0 ops) c.loop-index.out c.text-in-loop-index.new.self line (numbered (suc i) (drop (i + 1) ops)) inv (on g.W.Write.contents _ _ _ _ _ put c.text-in-loop-index.ensures.adds))
