-- A dump of what lines say.
use Rattle.std.specs.Prelude.{◌≡◌, ℕ, List, ⊤}
use Rattle.dw_eval.specs.Registers.{held}
use Rattle.dw_dump.specs.{Dump.FirstFault, Ranges.byte_in, Statement.{Statement, counter, register, byte, given}}
use Rattle.dw_dump.specs.declared.{dump.Dump.Dump, fault.DumpError.DumpError, fault.DumpError.TheVariants.{Fault, OutOfMemory}}

-- it holds the values that statements tell, and no others
pub record Describes (dump : Dump) (statements : List Statement) : Type 0 where
  pub pc : dump.pc ≡ given statements counter
  pub registers : (r : ℕ) → held dump.registers r ≡ given statements (register r)
  pub memory : (a : ℕ) → byte_in dump.memory a ≡ given statements (byte a)

-- there is no dump: the fault is the first one, or memory ran out
abbrev pub RefusesDump : ℕ → List (List ℕ) → DumpError → Type 0
RefusesDump limit lines (Fault fault) = FirstFault limit lines fault
RefusesDump limit lines OutOfMemory = ⊤
