use Rattle.dw_dump.proofs.{Words.rules, LineParts.none_said}
use Rattle.dw_dump.proofs.line.read_line.Goals as goal

pub returns-in-None : goal.returns-in-None
returns-in-None c =
    let told = c.in_ok-start.ensures {u = tt} in
    none_said c.args.line.now (search rules) c.in_default.ensures c.in_default-register_line.ensures (rw c.in-None.is at told)
