use Rattle.dw_row.proofs.{Words.{ℕ, subst, sym, nat_cmp, range_contains, Bound, Unbounded, place_behind}, Lent.RowLists.Entry, Difference.{FromOn, first_from, range_on}}
use Rattle.dw_row.proofs.entries.Entries.far_difference.Goals as goal

pub returns : goal.returns
returns c =
    let from = place_behind c.args.behind in let start = c.start_behind-start.result in
    let on = subst (λ (b : Bound ℕ). FromOn (λ (x : Entry). range_contains nat_cmp b Unbounded x.0) from) (sym c.start_behind-start.ensures) (range_on c.args.behind) in
    first_from (λ x. range_contains nat_cmp start Unbounded x.0) from 128 on c.args.self.now.far.entries c.args.others.now.far.entries c.range-rules.result c.range-others.result c.requires.so.far c.requires.others.far (c.range-rules.ensures.between tt) (c.range-others.ensures.between tt) c.first_difference.result c.first_difference.ensures
