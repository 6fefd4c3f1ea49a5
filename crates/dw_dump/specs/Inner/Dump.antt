-- What the code and its proofs say beside Dump.
use Rattle.std.specs.Prelude.{ℕ, ◌<◌, List, [], ◌∷◌, ◌++◌}
use Rattle.dw_dump.specs.Statement.{Statement, DumpItem, Fits, times}
use Rattle.dw_dump.specs.declared.fault.{DumpCode.DumpCode, DumpCode.TheVariants.{BadLine, ValueTooLarge, Repeated}}

-- the fault of a statement behind others
abbrev pub IsWrong : ℕ → List Statement → Statement → DumpCode → Type 0
IsWrong limit before s BadLine = ⊥
IsWrong limit before s ValueTooLarge = Fits limit s → ⊥
IsWrong limit before s Repeated = Fits limit s × ((item : DumpItem) × (1 < times (before ++ s ∷ []) item))
