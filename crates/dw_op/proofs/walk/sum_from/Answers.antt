use Rattle.dw_op.proofs.{Words.{arith, cases_eq, eq-eqb, ne_eqb, inl, inr}, WalkStarts.{count_here, count_past}}
use Rattle.dw_op.proofs.walk.sum_from.Goals as goal

pub returns-clause-exact : goal.returns-clause-exact
returns-clause-exact c = rw (c.then_some.ensures, ← c.copied-here.ensures) (elim (cases_eq c.at-2.result c.args.place) [
  | inl h ↦ rw (eq-eqb _ _ h) (count_here c.args.measure c.copied-here.result c.args.place c.advance-count.result c.advance-count.new.window c.advance-count.ensures.shifted (omega arith))
  | inr n ↦ rw (ne_eqb _ _ n) (count_past c.args.measure c.copied-here.result c.args.place c.advance-count.result c.advance-count.new.window c.advance-count.ensures.shifted (omega arith))
])
