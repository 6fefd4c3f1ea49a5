use Rattle.dw_dump.proofs.{Words.{subst, sym, HexPairs}, LineParts.{digits_lack_space, memory_parts}}
use Rattle.dw_dump.proofs.line.memory_line.Goals as goal

pub returns-in_default : goal.returns-in_default
returns-in_default c = λ v bytes said. c.in_default.ensures said.0 said.1 (digits_lack_space 16 0 v said.0 said.2.number) said.4

pub returns-in_default-hexadecimal : goal.returns-in_default-hexadecimal
returns-in_default-hexadecimal c = λ v bytes said.
    c.in_default-hexadecimal.ensures v (memory_parts c.args.line.now c.in-Some.digits.now c.in-Some.pairs.now c.in-Some.ensures.0 c.in-Some.ensures.1 v said.1 (said.0, said.2, said.4)).is_start

pub returns-in-None : goal.returns-in-None
returns-in-None c = λ v bytes said.
    let parts = memory_parts c.args.line.now c.in-Some.digits.now c.in-Some.pairs.now c.in-Some.ensures.0 c.in-Some.ensures.1 v said.1 (said.0, said.2, said.4) in
    let told = c.in_ok-bytes.ensures {u = tt} in
    let none = rw c.in-None.is at told in
    none bytes (subst (HexPairs bytes) (sym parts.behind) said.3)
