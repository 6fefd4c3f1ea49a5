-- What holds of dumps, for the layers above.
use Rattle.std.specs.Prelude.{◌≡◌, ◌⊎◌, ◌≤◌, ℕ, List, length, ⊤}
use Rattle.dw_dump.specs.{Dump.{Say, FirstFault}, Statement.Statement, declared.fault.{DumpError.DumpError, DumpFault.DumpFault}}
use Rattle.dw_dump.specs.declared.fault.DumpError.TheVariants as dumps

-- a fault's line is one of these, counted from 1
abbrev pub NamesLine : List (List ℕ) → DumpError → Type 0
NamesLine lines (dumps.Fault fault) = (1 ≤ fault.line) × (fault.line ≤ length lines)
NamesLine lines dumps.OutOfMemory = ⊤

-- lines say one list of things, or have one first fault, and not both
pub record OneDump : Type 0 where
  pub exists : (limit : ℕ) (lines : List (List ℕ)) → ((statements : List Statement) × Say limit lines statements) ⊎ ((fault : DumpFault) × FirstFault limit lines fault)
  pub said : (limit : ℕ) (lines : List (List ℕ)) (ss ts : List Statement) → Say limit lines ss → Say limit lines ts → ss ≡ ts
  pub fault : (limit : ℕ) (lines : List (List ℕ)) (f g : DumpFault) → FirstFault limit lines f → FirstFault limit lines g → f ≡ g
  pub apart : (limit : ℕ) (lines : List (List ℕ)) (ss : List Statement) (f : DumpFault) → Say limit lines ss → FirstFault limit lines f → ⊥
