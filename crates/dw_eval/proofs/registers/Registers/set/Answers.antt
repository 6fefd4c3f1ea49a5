use Rattle.dw_eval.proofs.{Words.{◌≡◌, ◌∙◌, ◌+◌, ℕ, List, Option, Some, length, sym, ap, subst, if◌then◌else◌, ◌==◌, max, held, any_held, first_held}, RegisterLaws.{first_count, put_held, put_so}}
use Rattle.dw_eval.proofs.registers.Registers.set.Goals as goal

pub returns-clause-set : goal.returns-clause-set
returns-clause-set c = λ r.
    let i = c.self.inside in
    let n = c.hold.new in
    let put = c.in_ok-hold.ensures.held in
    let so = put_so i.known n.known i.values n.values i.far.items n.far.items i.end c.end_with-self-inside.result c.args.register c.args.value c.self.invariant c.end_with-self-inside.ensures put c.ranges.register.fits c.hold.ensures.known c.hold.ensures.values in
    subst (λ (l : List (Option ℕ)). held (first_held (any_held n.known n.values n.far.items) c.end_with-self-inside.result) r ≡ (if r == c.args.register then Some c.args.value else held l r)) c.self.view_is
    (put_held i.known n.known i.values n.values i.far.items n.far.items i.end c.end_with-self-inside.result c.args.register c.args.value c.self.invariant c.end_with-self-inside.ensures put so r)

pub returns-clause-end : goal.returns-clause-end
returns-clause-end c =
    let i = c.self.inside in
    let n = c.hold.new in
    subst (λ (l : List (Option ℕ)). length (first_held (any_held n.known n.values n.far.items) c.end_with-self-inside.result) ≡ max (length l) (c.args.register + 1)) c.self.view_is
    (first_count c.end_with-self-inside.result (any_held n.known n.values n.far.items) ∙ c.end_with-self-inside.ensures ∙ ap (λ (m : ℕ). max m (c.args.register + 1)) (sym (first_count i.end (any_held i.known i.values i.far.items))))
