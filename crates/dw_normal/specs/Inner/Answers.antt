-- What the code and its proofs say beside Answers.
use Rattle.std.specs.Prelude.{◌≡◌, ℕ, ◌≤◌, List, length}
use Rattle.dw_num.specs.{Input.AreBytes, declared.error.ReadError.ReadError, declared.target.Target.Target}
use Rattle.dw_num.specs.declared.error.ReadError.TheVariants as read_error
use Rattle.dw_row.specs.Rows.{Rules}
use Rattle.dw_section.specs.Accepted.{Accepted}
use Rattle.dw_canon.specs.Members.{Member, AreMembers}
use Rattle.dw_canon.specs.Inner.Canon.{canon}
use Rattle.dw_normal.specs.{Answers.{too_long, IsTooLong, FitsCap}, declared.error.SameError.SameError, declared.error.Which.Which}
use Rattle.dw_normal.specs.{declared.error.Which.TheVariants.{First, Second}, declared.error.WriteError.WriteError, Inner.Groups.initial_rows}
use Rattle.dw_normal.specs.declared.error.SameError.TheVariants as same_error
use Rattle.dw_normal.specs.declared.error.WriteError.TheVariants as write_error

-- an accepted section whose normal form is within the cap
pub record IsShort (target : Target) (cap : ℕ) (s : List ℕ) : Type 0 where
  pub bytes : AreBytes s
  pub accepted : Accepted target s
  pub within : (ms : List Member) → AreMembers target s ms → length (canon target ms) ≤ cap

-- with its initial rows
pub record IsPrepared (target : Target) (cap : ℕ) (s : List ℕ) (rows : List (ℕ × Rules)) : Type 0 where
  pub short : IsShort target cap s
  pub rows_are : (ms : List Member) → AreMembers target s ms → rows ≡ initial_rows ms

-- with the length of its normal form
pub record IsMeasured (target : Target) (cap : ℕ) (s : List ℕ) (len : ℕ) : Type 0 where
  pub short : IsShort target cap s
  pub len_is : (ms : List Member) → AreMembers target s ms → len ≡ length (canon target ms)

-- an error over one of two sections
abbrev pub blamed : Which → ReadError → SameError
blamed which read_error.OutOfMemory = same_error.OutOfMemory
blamed which (read_error.Refused r) = same_error.Refused which r

-- the normal form of one of two accepted sections is too long, the first one's before the second one's
abbrev pub LengthFault : Target → ℕ → List ℕ → List ℕ → SameError → Type 0
LengthFault target cap a b same_error.OutOfMemory = Unit {0}
LengthFault target cap a b (same_error.Refused First r) = IsTooLong target cap a × (r ≡ too_long)
LengthFault target cap a b (same_error.Refused Second r) = FitsCap target cap a × IsTooLong target cap b × (r ≡ too_long)

-- an error before the first byte
abbrev pub unwritten : ReadError → WriteError
unwritten read_error.OutOfMemory = write_error.Memory 0
unwritten (read_error.Refused r) = write_error.Refused r

-- an error over a tape, whose failures are refused requests for memory
abbrev pub unread : WriteError → ReadError
unread (write_error.Refused r) = read_error.Refused r
unread (write_error.Write written) = read_error.OutOfMemory
unread (write_error.Memory written) = read_error.OutOfMemory
