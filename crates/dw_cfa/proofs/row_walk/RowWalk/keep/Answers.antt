use Rattle.dw_cfa.proofs.{Words.{sym, ap, subst, ◌∙◌, Machine, Held, Walking, WalksSo, walk_of}, Walks.{kept_walk, kept_walks}}
use Rattle.dw_cfa.proofs.row_walk.RowWalk.keep.Goals as goal

abbrev with_states : Machine → Held → Machine
with_states m states = record { initial = m.initial; states = states; location = m.location; limit = m.limit }

pub invariant_of-self : goal.invariant_of-self
invariant_of-self c =
    let w = c.self.inside in
    subst (λ (h : Held). WalksSo w.progress w.kept w.leading w.fde (with_states w.machine h)) (sym c.keep.ensures.same)
    (kept_walks w.progress w.kept w.leading w.fde w.machine c.keep.new.self.kept c.self.invariant)

pub returns-clause-same : goal.returns-clause-same
returns-clause-same c =
    let w = c.self.inside in
    ap (λ (h : Held). walk_of w.progress w.leading w.fde (with_states w.machine h)) c.keep.ensures.same
    ∙ kept_walk w.progress w.leading w.fde w.machine c.keep.new.self.kept ∙ ap (λ (k : Walking). k.steps) c.self.view_is
