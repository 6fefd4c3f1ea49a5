use Rattle.dw_row.proofs.{Words.{List, sym, ap, subst, ◌∙◌, RegRule, Rules, put, SameUnlisted}, Lent.RowLists.Entry, Marked.far_copied}
use Rattle.dw_row.proofs.among.copy_listed.Goals as goal

pub marks-preserved : goal.marks-preserved
marks-preserved c =
    let xs = c.args.row.now.registers in let r = c.in-Some.register.now in
    let set = ap (λ (row : Rules). row.registers) c.in_ok-set.ensures.ok ∙ ap (λ (rule : RegRule). put r rule c.marks.copy.registers) c.rule.ensures in
    subst (λ (l : List Entry). SameUnlisted 0 c.next.new.self l xs) (sym set) (far_copied xs c.marks.copy.registers c.marks.marks c.next.new.self r c.in-Some.field-0-1.now c.in-Some.ensures.steps c.ascends.ensures c.marks.invariant)
