-- How the code finds an FDE that stands in bytes.
use Rattle.std.specs.Prelude.{◌≡◌, ℕ, List}
use Rattle.dw_num.specs.declared.error.ReadError.{ReadError}
use Rattle.dw_num.specs.declared.target.Target.{Target}
use Rattle.dw_num.specs.declared.error.ReadError.TheVariants as read_error
use Rattle.dw_section.specs.{Headers.{CieHead, FdeHead}, StandingFde.FdeStands}
use Rattle.dw_section.specs.declared.listed_fde.FoundFde.{FoundFde}
use Rattle.dw_section.specs.declared.standing_fde.{LookUpError.LookUpError, LookUpError.TheVariants.{Refused, OutOfMemory}}
use Rattle.dw_section.specs.Inner.PieceHeader.{entry_head, initial_head}

-- some FDE stands at a place
abbrev pub StandsAt : Target → List ℕ → ℕ → Type 0
StandsAt target s at = (own : FdeHead) × (named : CieHead) × FdeStands target s own named × (own.at ≡ at)

-- this one does, with what its CIE says
abbrev pub FoundStands : Target → List ℕ → FoundFde → Type 0
FoundStands target s e = FdeStands target s (entry_head e.own) (initial_head e.cie)

abbrev pub of_steps : ReadError → LookUpError
of_steps (read_error.Refused r) = Refused r
of_steps read_error.OutOfMemory = OutOfMemory
