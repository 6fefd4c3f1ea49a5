use Rattle.dw_library.proofs.{Words.{rules, refl}, Changed.written_more}
use Rattle.dw_library.proofs.rows.put_change.Goals as goal

pub returns : goal.returns
returns c = λ done changes buffer w.
    let a = c.args in
    written_more a.fde done (a.address, a.row.now) changes a.out.now c.put_at.new.out buffer a.rules.now _ c.told_row-row.new.out a.before _ c.min-place.result c.told_row-row.result.count
    w (search rules) (search rules) c.min-place.ensures c.told_row-row.ensures.rules refl c.told_row-row.ensures.told.count
    (rw c.told_row-row.ensures.exact at c.put_at.ensures.inside) c.put_at.ensures.outside (search rules) (search rules)
