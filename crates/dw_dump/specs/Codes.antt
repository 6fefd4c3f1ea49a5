-- The numbers and names of faults.
use Rattle.std.specs.Prelude.{ℕ, List, codes}
use Rattle.dw_dump.specs.declared.fault.DumpCode.{DumpCode, TheVariants.{BadLine, ValueTooLarge, Repeated}}

-- number and name of each fault of a dump
abbrev pub code_entry : DumpCode → ℕ × List ℕ
code_entry BadLine = (1, codes "BadLine")
code_entry ValueTooLarge = (2, codes "ValueTooLarge")
code_entry Repeated = (3, codes "Repeated")
