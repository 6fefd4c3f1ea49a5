use Rattle.dw_section.specs.{Inner.Index.AreAllJudged, Ranges.{AreIndexed}}
use Rattle.dw_section.proofs.{Words.{ℕ, List, Target, map, inl, inr, range_in}, Lent.Heads.heads_rise, Ordered.in_place, Tables.{in_order, nonempty_rise}, fde_range.ordered.Goals.In_ok-put_in_order}
use Rattle.dw_section.proofs.fde_range.ordered.Goals as goal

-- the nonempty FDEs in order of place, where the CFA has a rule at each address, put in the order of their begins
indexed : (c : In_ok-put_in_order) (t : Target) (s : List ℕ) → AreAllJudged t s c.args.judged → AreIndexed t s c.put_in_order.new.list.items
indexed c t s w =
    let put = c.in_ok-put_in_order.ensures in
    in_order t s w.0 c.args.judged.list.items c.put_in_order.new.list.items ((w.1, w.2.run), rw c.in_default.is at w.2.first) w.2.are w.2.each put.ascends put.permutes

pub put_in_order-requires : goal.put_in_order-requires
put_in_order-requires c =
    let w = c.requires.2 in
    in_place 0 c.args.judged.list.items (rw w.2.are (nonempty_rise 0 w.0 (heads_rise c.requires.0 c.requires.1 w.0 w.1.0)))

pub returns-in-Some-clause-first : goal.returns-in-Some-clause-first
returns-in-Some-clause-first c = λ t s w. rw c.refusal.ensures (inl (inr (w.0, (w.1, w.2.run), rw c.in-Some.is at w.2.first)))

pub returns-in-Some-first_overlap-clause-first : goal.returns-in-Some-first_overlap-clause-first
returns-in-Some-first_overlap-clause-first c = λ t s judged.
    let w = indexed (goal.at.returns-in-Some-first_overlap-clause-first c).In_ok-put_in_order t s judged in
    rw (c.refusal-in-Some-first_overlap.ensures) (inr (map range_in c.put_in_order.new.list.items, (w.headers, w.hold, w.is_index), rw c.deref.ensures.value at c.in-Some-first_overlap.ensures))

pub returns-in-None-clause-found : goal.returns-in-None-clause-found
returns-in-None-clause-found c = λ t s judged.
    record { indexed = indexed (goal.at.returns-in-None-clause-found c).In_ok-put_in_order t s judged; apart = rw c.deref.ensures.value at c.in-None.ensures }
