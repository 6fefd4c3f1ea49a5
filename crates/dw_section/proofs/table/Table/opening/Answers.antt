use Rattle.dw_section.proofs.{Words.{refl, ap, subst, Target, Section}, RowLookup.{found_lengths, Opens, found_opening, only_opening}}
use Rattle.dw_section.proofs.table.Table.opening.Goals as goal

pub returns : goal.returns
returns c =
    let s = c.args.self.now in
    let found = c.found-found in
    let opens = subst (λ (own : Target). Opens own found.result c.row_behind.result) (ap (λ (x : Section). x.target) c.self.view_is) (λ instrs spells. rw (c.row_behind.ensures, c.first_row-first.ensures instrs spells) refl) in
    record {
      lengths = λ fs are d. rw (← found.ensures.listed fs are d) (found_lengths s.target s.bytes found.result found.ensures.found);
      opens = λ fs are d. rw (← found.ensures.listed fs are d) (found_opening s.target s.bytes found.result found.ensures.found c.row_behind.result opens);
      only = λ fs are d row behind. only_opening s.target s.bytes found.result found.ensures.found c.row_behind.result opens c.accepted.ensures.bytes c.accepted.ensures.accepted row (rw (← found.ensures.listed fs are d) at behind);
    }
