-- What the code's statements say.
use Rattle.dw_dump.specs.Statement.{Statement, nothing, counter_is, register_is, memory_is}
use Rattle.dw_dump.specs.declared.line.{Statement.{Statement as Line}, Statement.TheVariants.{Nothing, Counter, Register, Memory}}

abbrev pub stated : Line → Statement
stated Nothing = nothing
stated (Counter v) = counter_is v
stated (Register r v) = register_is r v
stated (Memory start bytes) = memory_is start bytes.items
