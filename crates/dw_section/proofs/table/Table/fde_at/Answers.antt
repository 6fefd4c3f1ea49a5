use Rattle.dw_section.proofs.{Words.{refl, arith, fde_in, get_or-map, length-map}, Lent.FdeLookup.{listed_are, none}}
use Rattle.dw_section.proofs.table.Table.fde_at.Goals as goal

pub returns : goal.returns
returns c = λ fs are.
    let found = c.in_ok-place.ensures.covers in
    rw (← listed_are c.args.self.now.target c.args.self.now.bytes c.index.result.now c.index.ensures fs are) (omega (arith, found.0, length-map c.index.result.now fde_in), λ d. rw (get_or-map fde_in c.index.result.now c.in_ok-place.place none d found.0) (found.1 none))

pub returns-in_err-place : goal.returns-in_err-place
returns-in_err-place c = λ fs are.
    let t = c.index.ensures in
    rw (← listed_are c.args.self.now.target c.args.self.now.bytes c.index.result.now t fs are) (rw c.from_residual.ensures (c.in_err-place.ensures.none refl t.indexed.is_index.ascends t.apart))
