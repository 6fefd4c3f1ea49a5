use Rattle.dw_show.proofs.{Words.{None, Some, refl}, Members.fde_low, Lent.Endings.on}
use Rattle.dw_show.proofs.rows.put_at.Goals as goal

pub returns-in_default : goal.returns-in_default
returns-in_default g c = record { put = λ fs are. ((c.args.address, None), (refl, rw c.in_default.is at (c.in_ok-fde.ensures.found fs are)), c.put_none.ensures) }

pub put_fde-requires : goal.put_fde-requires
put_fde-requires g c =
    record { in_space = fde_low c.args.table.now.target c.args.table.now.bytes c.accepted.ensures.bytes c.accepted.ensures.accepted c.in-Some.fde (λ fs are. (rw c.in-Some.is at (c.in_ok-fde.ensures.found fs are)).0) }

pub returns : goal.returns
returns g c = record {
  put = λ fs are.
      let found = rw c.in-Some.is at (c.in_ok-fde.ensures.found fs are) in
      ((c.args.address, Some (c.in-Some.fde, c.row.result.now)), (refl, found.0, found.1, rw c.row.ensures found.2), on g.W.Write.contents _ _ _ _ _ c.put_fde.ensures (rw c.from.ensures at c.put_row.ensures));
}
