-- What the lines read so far have told.
use Rattle.std.specs.{Prelude.{◌≡◌, ℕ, suc, ◌+◌, ◌<◌, ◌≤◌, List, [], ◌∷◌, ◌++◌, length, Option, MatchOption, ⊤}, List.{AllByRecursion, AllZip}}
use Rattle.dw_eval.specs.Registers.{held}
use Rattle.dw_dump.specs.{Dump.{SaysWithin, IsFaulty}, Lines.lines_of, Statement.{Statement, nothing, counter_is, register_is}}
use Rattle.dw_dump.specs.{Statement.{memory_is, counter, register, Fits, given, times}, declared.fault.DumpCode.DumpCode}
use Rattle.dw_dump.specs.{declared.dump.Gathered.Gathered, declared.fault.DumpFault.DumpFault, declared.memory.Range.Range, Inner.Dump.IsWrong}

-- the ranges of the memory that statements tell, the first of them on a line, their bytes from a place on
abbrev pub ranges_of : ℕ → ℕ → List Statement → List Range
ranges_of line place [] = []
ranges_of line place (nothing ∷ ss) = ranges_of (suc line) place ss
ranges_of line place (counter_is v ∷ ss) = ranges_of (suc line) place ss
ranges_of line place (register_is r v ∷ ss) = ranges_of (suc line) place ss
ranges_of line place (memory_is start bytes ∷ ss) = record { address = start; place = place; len = length bytes; line = line } ∷ ranges_of (suc line) (place + length bytes) ss

-- the bytes that a statement tells
abbrev pub bytes_by : Statement → List ℕ
bytes_by nothing = []
bytes_by (counter_is v) = []
bytes_by (register_is r v) = []
bytes_by (memory_is start bytes) = bytes

-- their bytes, one after the other
abbrev pub bytes_of : List Statement → List ℕ
bytes_of [] = []
bytes_of (s ∷ ss) = bytes_by s ++ bytes_of ss

-- it tells of memory at least a byte
abbrev pub HasBytes : Statement → Type 0
HasBytes nothing = ⊤
HasBytes (counter_is v) = ⊤
HasBytes (register_is r v) = ⊤
HasBytes (memory_is start bytes) = 0 < length bytes

abbrev pub IsWhole : ℕ → Statement → Type 0
IsWhole limit s = Fits limit s × HasBytes s

-- what is kept of statements, in which only bytes of memory may be told twice
pub record Keeps (limit : ℕ) (kept : Gathered) (ss : List Statement) : Type 0 where
  pub pc : kept.pc ≡ given ss counter
  pub registers : (r : ℕ) → held kept.registers r ≡ given ss (register r)
  pub ranges : kept.ranges.items ≡ ranges_of 1 0 ss
  pub bytes : kept.bytes.items ≡ bytes_of ss
  pub whole : AllByRecursion (IsWhole limit) ss
  pub one_counter : times ss counter ≤ 1
  pub one_register : (r : ℕ) → times ss (register r) ≤ 1

-- what a statement behind others leaves, or its fault
abbrev pub Adds : ℕ → Gathered → List Statement → Statement → Option DumpCode → Type 0
Adds limit new ss s found = MatchOption found
    (Keeps limit new (ss ++ s ∷ []) × Fits limit s)
    (λ code. Keeps limit new ss × IsWrong limit ss s code)

-- the lines up to the end or to a fault, which is none of repeated bytes
pub record Gathers (limit : ℕ) (lines : List (List ℕ)) (kept : Gathered) (found : Option DumpFault) : Type 0 where
  pub read : List (List ℕ)
  pub statements : List Statement
  pub each : AllZip (SaysWithin limit) read statements
  pub keeps : Keeps limit kept statements
  pub rest : MatchOption found (lines ≡ read) (λ fault. (line : List ℕ) × (after : List (List ℕ)) × (lines ≡ read ++ line ∷ after)
      × IsFaulty limit statements line fault.code × (fault.line ≡ length read + 1))

-- what a line behind those of statements leaves, or its fault
abbrev pub Takes : ℕ → Gathered → List Statement → List ℕ → Option DumpCode → Type 0
Takes limit new ss text found = MatchOption found
    ((s : Statement) × SaysWithin limit text s × Keeps limit new (ss ++ s ∷ []))
    (λ code. Keeps limit new ss × IsFaulty limit ss text code)

-- a text is read up to its rest
pub record SoFar (limit : ℕ) (text rest : List ℕ) (line : ℕ) (kept : Gathered) : Type 0 where
  pub read : List (List ℕ)
  pub statements : List Statement
  pub each : AllZip (SaysWithin limit) read statements
  pub keeps : Keeps limit kept statements
  pub parts : lines_of text ≡ read ++ lines_of rest
  pub count : line ≡ length read
  pub room : line + length rest ≤ length text
