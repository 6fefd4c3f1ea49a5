-- Which failure an error of a call over normal forms becomes.
use Rattle.std.specs.Prelude.{◌≡◌, codes}
use Rattle.clap.specs.Words.{Text}
use Rattle.dw_num.specs.declared.refusal.Refusal.{Refusal}
use Rattle.dw_normal.specs.declared.error.{SameError.SameError, Which.TheVariants.{First, Second}}
use Rattle.dw_normal.specs.declared.error.SameError.TheVariants as same_error
use Rattle.dw_show.specs.declared.failure.Failure.{Failure}
use Rattle.dw_show.specs.declared.failure.Failure.TheVariants as failures

-- a refusal of the section that a text names
abbrev pub IsIn : Refusal → Text → Failure → Type 0
IsIn refusal which (failures.RefusedIn r text) = (r ≡ refusal) × (text.now ≡ which)
IsIn refusal which failure = ⊥

abbrev pub OfSame : SameError → Failure → Type 0
OfSame (same_error.Refused First refusal) failure = IsIn refusal (codes "first") failure
OfSame (same_error.Refused Second refusal) failure = IsIn refusal (codes "second") failure
OfSame same_error.OutOfMemory failure = failure ≡ failures.OutOfMemory
