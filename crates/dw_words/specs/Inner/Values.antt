-- Values as the code reads them: one of two names, or none that it may have.
use Rattle.std.specs.{Prelude.{◌≡◌, Option, Some, None, Result, Ok, Err, if◌then◌else◌}, Str.bytes_eq}
use Rattle.clap.specs.Words.{Text}
use Rattle.dw_words.specs.declared.request.PlanError.{PlanError}

-- a value by its name, or another by its own
abbrev pub either : {T : Type 0} → Text → T → Text → T → Text → Option T
either first one second other text = if bytes_eq text first then Some one else (if bytes_eq text second then Some other else None)

-- a value that is there, or what is answered where it is not
abbrev pub IsValue : {T : Type 0} → Option T → PlanError → Result T PlanError → Type 0
IsValue value lacking (Ok v) = value ≡ Some v
IsValue value lacking (Err e) = (value ≡ None) × (e ≡ lacking)
