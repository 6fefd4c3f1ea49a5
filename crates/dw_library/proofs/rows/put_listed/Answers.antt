use Rattle.dw_library.proofs.rows.put_listed.Goals as goal

pub returns-in-Ok : goal.returns-in-Ok
returns-in-Ok c = (rw (c.target-target.ensures, c.bytes-bytes.ensures) at c.in-Ok.ensures.own) c.index.ensures
