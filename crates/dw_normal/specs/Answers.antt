-- What calls over normal forms answer.
use Rattle.std.specs.{Prelude.{◌≡◌, ◌⊎◌, ℕ, ◌<◌, ◌≤◌, List, length, Option, take, Result, Ok, Err}, Io.KnownBytes.{Appends, Keeps}}
use Rattle.dw_num.specs.declared.{refusal.Code.TheVariants.NormalTooLong, refusal.Refusal.Refusal, target.Target.Target}
use Rattle.dw_op.specs.Faults.{IsWithin}
use Rattle.dw_section.specs.Accepted.{CheckFault, Accepted}
use Rattle.dw_canon.specs.Normal.{IsNormalForm}
use Rattle.dw_normal.specs.declared.error.{SameError.SameError, Which.TheVariants.{First, Second}, WriteError.WriteError}
use Rattle.dw_normal.specs.declared.error.SameError.TheVariants as same_error
use Rattle.dw_normal.specs.declared.error.WriteError.TheVariants as write_error

-- the refusal of a normal form that is longer than its cap
abbrev pub too_long : Refusal
too_long = record { code = NormalTooLong; at = 0 }

-- the normal form has more than cap bytes
abbrev pub IsTooLong : Target → ℕ → List ℕ → Type 0
IsTooLong target cap s = (n : List ℕ) × IsNormalForm target s n × (cap < length n)

-- the normal form has at most cap bytes
abbrev pub FitsCap : Target → ℕ → List ℕ → Type 0
FitsCap target cap s = (n : List ℕ) × IsNormalForm target s n × (length n ≤ cap)

-- the first fault of a section, or that its normal form is too long
abbrev pub NormalFault : Target → ℕ → List ℕ → Refusal → Type 0
NormalFault target cap s r = CheckFault target s r ⊎ (IsTooLong target cap s × (r ≡ too_long))

-- ---- two sections

-- the first fault of two sections: the first one's, the second one's, then a normal form that is too long
abbrev pub SameFault : Target → ℕ → List ℕ → List ℕ → SameError → Type 0
SameFault target cap a b same_error.OutOfMemory = Unit {0}
SameFault target cap a b (same_error.Refused First r) =
    CheckFault target a r ⊎ (IsTooLong target cap a × Accepted target b × (r ≡ too_long))
SameFault target cap a b (same_error.Refused Second r) =
    (Accepted target a × CheckFault target b r) ⊎ (FitsCap target cap a × IsTooLong target cap b × (r ≡ too_long))

-- a refusal's place lies in the section that it names
abbrev pub IsWithinEither : List ℕ → List ℕ → SameError → Type 0
IsWithinEither a b same_error.OutOfMemory = Unit {0}
IsWithinEither a b (same_error.Refused First r) = IsWithin a r
IsWithinEither a b (same_error.Refused Second r) = IsWithin b r

-- ---- sinks

-- a refusal's place lies in the section
abbrev pub RefusesWithin : List ℕ → WriteError → Type 0
RefusesWithin s (write_error.Refused r) = IsWithin s r
RefusesWithin s other = Unit {0}

-- what went out before a failure: a beginning of the normal form within the cap, of which so many bytes were taken
pub record WentOut (target : Target) (cap : ℕ) (s : List ℕ) (written : ℕ) (old new : Option (List ℕ)) : Type 0 where
  pub normal : List ℕ
  pub is : IsNormalForm target s normal
  pub within : length normal ≤ cap
  pub front : written ≤ length normal
  pub took : Appends old new (take written normal)

-- What a call that writes the normal form of s, within a cap, to a sink answers. `failed` and `failed'` are the sink's count of
-- failures before and after the call; `old` and `new` are the bytes that it tells, before and after.
-- - Answered: nothing failed, and the sink has got exactly the normal form, whose length is the answer.
-- - Refused: nothing failed and nothing was written; the refusal is the first fault, or that the normal form is too long.
-- - Write: the sink failed, since its count grew, and `written` bytes went out: a beginning of the normal form.
-- - Memory: memory ran out and nothing failed. Either nothing was written, or what went out is a beginning of the normal form.
abbrev pub Writes : Target → ℕ → List ℕ → Result ℕ WriteError → ℕ → ℕ → Option (List ℕ) → Option (List ℕ) → Type 0
Writes target cap s (Ok count) failed failed' old new =
    (failed' ≡ failed) × ((n : List ℕ) × IsNormalForm target s n × (length n ≤ cap) × (count ≡ length n) × Appends old new n)
Writes target cap s (Err (write_error.Refused r)) failed failed' old new = (failed' ≡ failed) × NormalFault target cap s r × Keeps old new
Writes target cap s (Err (write_error.Write written)) failed failed' old new = (failed < failed') × WentOut target cap s written old new
Writes target cap s (Err (write_error.Memory written)) failed failed' old new =
    (failed' ≡ failed) × (((written ≡ 0) × Keeps old new) ⊎ WentOut target cap s written old new)
