use Rattle.dw_row.proofs.Words.{one_answer, same_rows, rows_tell}
use Rattle.dw_row.proofs.equality.RowPartialEq.eq.Goals as goal

pub returns-clause-test : goal.returns-clause-test
returns-clause-test c = one_answer c.is_same.result (same_rows c.args.self.now c.args.other.now) c.is_same.ensures (rows_tell c.args.self.now c.args.other.now)
