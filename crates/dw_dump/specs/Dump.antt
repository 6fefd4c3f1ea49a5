-- What a dump says, or its first fault.
use Rattle.std.specs.{Prelude.{◌≡◌, ℕ, ◌+◌, ◌<◌, ◌≤◌, List, [], ◌∷◌, ◌++◌, length}, List.AllZip}
use Rattle.dw_dump.specs.{Spelling.LineSays, Statement.{Statement, DumpItem, Fits, times}}
use Rattle.dw_dump.specs.declared.fault.{DumpCode.DumpCode, DumpCode.TheVariants.{BadLine, ValueTooLarge, Repeated}, DumpFault.DumpFault}

-- a line says this, and its values are below the limit of addresses
abbrev pub SaysWithin : ℕ → List ℕ → Statement → Type 0
SaysWithin limit line s = LineSays line s × Fits limit s

-- what lines say one by one, and nothing twice
pub record Say (limit : ℕ) (lines : List (List ℕ)) (statements : List Statement) : Type 0 where
  pub each : AllZip (SaysWithin limit) lines statements
  pub once : (item : DumpItem) → times statements item ≤ 1

-- the fault of a line behind statements
abbrev pub IsFaulty : ℕ → List Statement → List ℕ → DumpCode → Type 0
IsFaulty limit before line BadLine = (s : Statement) → LineSays line s → ⊥
IsFaulty limit before line ValueTooLarge = (s : Statement) × LineSays line s × (Fits limit s → ⊥)
IsFaulty limit before line Repeated = (s : Statement) × SaysWithin limit line s × ((item : DumpItem) × (1 < times (before ++ s ∷ []) item))

-- the first line at fault, counted from 1, and its fault
pub record FirstFault (limit : ℕ) (lines : List (List ℕ)) (fault : DumpFault) : Type 0 where
  pub before : List (List ℕ)
  pub line : List ℕ
  pub after : List (List ℕ)
  pub statements : List Statement
  pub whole : lines ≡ before ++ line ∷ after
  pub say : Say limit before statements
  pub faulty : IsFaulty limit statements line fault.code
  pub number : fault.line ≡ length before + 1
