use Rattle.dw_dump.proofs.{Words.nothing, KeepLaws.keeps_nothing}
use Rattle.dw_dump.proofs.dump.take_line.Goals as goal

pub returns-in-Nothing : goal.returns-in-Nothing
returns-in-Nothing c = λ ss number k.
    let told = c.in_ok-statement.ensures {u = tt} in
    let said = rw c.in-Some.is at told in
    (nothing, (rw c.in-Nothing.is at said, tt), keeps_nothing k)
