use Rattle.dw_row.proofs.Lent.SameRows.{same_exactly}
use Rattle.dw_row.proofs.row.Row.has_same_registers.Goals as goal

pub returns : goal.returns
returns c =
    let d = c.next_difference.ensures in
    same_exactly c.args.self.now.registers c.args.other.now.registers c.next_difference.result c.is_none.result d.ascending d.other_ascending d.first c.is_none.ensures
