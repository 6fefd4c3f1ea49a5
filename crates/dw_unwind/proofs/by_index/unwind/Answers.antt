use Rattle.dw_unwind.proofs.Words.{ℕ, List, sym, subst, inl, inr, Target, Rules, IsTable, IsCovered}
use Rattle.dw_unwind.proofs.by_index.unwind.Goals as goal

pub returns-in-Ok-clause-answered : goal.returns-in-Ok-clause-answered
returns-in-Ok-clause-answered g c = λ same.
    let a = c.args in
    let register = c.in-Ok.returns in
    let row = c.row-row.result.now in
    let bytes = c.bytes.result.now in
    let index = c.index.result.now in
    let of_bytes = subst (λ (s : List ℕ). IsTable a.table.now.target s index) (sym c.bytes.ensures) c.index.ensures in
    let own = c.in-Ok.ensures.own (subst (λ (t : Target). IsTable t bytes index) (sym c.requires.target) of_bytes) in
    let shown = subst (λ (x : Rules). IsCovered a.target bytes a.pc register x) (sym c.row-row.ensures) own in
    let covered = subst (λ (s : List ℕ). IsCovered a.target s a.pc register row) c.bytes.ensures shown in
    elim (c.unwind_row.ensures.answered same) [ inl short ↦ inl short | inr is ↦ inr (inr (register, row, covered, is)) ]

pub returns-in-Ok-clause-failed : goal.returns-in-Ok-clause-failed
returns-in-Ok-clause-failed g c = λ grew.
    let a = c.args in let register = c.in-Ok.returns in let row = c.row-row.result.now in let bytes = c.bytes.result.now in let index = c.index.result.now in
    let of_bytes = subst (λ (s : List ℕ). IsTable a.table.now.target s index) (sym c.bytes.ensures) c.index.ensures in let own = c.in-Ok.ensures.own (subst (λ (t : Target). IsTable t bytes index) (sym c.requires.target) of_bytes) in
    let shown = subst (λ (x : Rules). IsCovered a.target bytes a.pc register x) (sym c.row-row.ensures) own in let covered = subst (λ (s : List ℕ). IsCovered a.target s a.pc register row) c.bytes.ensures shown in
    let f = c.unwind_row.ensures.failed grew in (f.0, f.1, f.2, (register, row, covered, f.3))

pub returns-in-Ok-clause-device : goal.returns-in-Ok-clause-device
returns-in-Ok-clause-device g c = c.unwind_row.ensures.device
