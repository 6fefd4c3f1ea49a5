-- What an error of a call that reads says.
use Rattle.dw_num.specs.declared.{error.ReadError.ReadError, error.ReadError.TheVariants.{Refused, OutOfMemory}, refusal.Refusal.Refusal}

-- an error is such a fault, unless memory ran out
abbrev pub Refuses : (Refusal → Type 0) → ReadError → Type 0
Refuses Fault OutOfMemory = Unit {0}
Refuses Fault (Refused r) = Fault r
