use Rattle.dw_row.proofs.Lent.SameRows.{same_exactly}
use Rattle.dw_row.proofs.kept_row.KeptRow.has_same_registers.Goals as goal

pub returns : goal.returns
returns c =
    let d = c.next_difference.ensures in
    same_exactly c.args.self.now.row.registers c.args.current.now.registers c.next_difference.result c.is_none.result d.ascending d.other_ascending d.first c.is_none.ensures
