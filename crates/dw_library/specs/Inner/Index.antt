-- What the code says beside Index.
use Rattle.std.specs.Prelude.{◌≡◌, ℕ, List, Result, Ok, Err, IfOk}
use Rattle.dw_num.specs.declared.target.Target.{Target}
use Rattle.dw_section.specs.{Ranges.Ranged, declared.standing_fde.{LookUpError.LookUpError, LookUpError.TheVariants.OutOfMemory}}
use Rattle.dw_library.specs.{Index.{TellsFde, TellsRules}, declared.index.{Row.Row, Rule.Rule}}

-- a row and its rules are told by the index of an accepted section, or memory was wanting
abbrev pub TellsOwn : Target → List ℕ → ℕ → List Rule → Row → List Rule → Result ℕ LookUpError → Type 0
TellsOwn target s a old row rules (Ok status) = TellsRules target s a old (record { status = status; row = row; rules = rules })
TellsOwn target s a old row rules (Err e) = e ≡ OutOfMemory

-- and by any index, if they are told
abbrev pub TellsAny : Target → List ℕ → List Ranged → ℕ → List Rule → Row → List Rule → Result ℕ LookUpError → Type 0
TellsAny target s index a old row rules answer = IfOk answer (λ status. TellsFde target s index a old (record { status = status; row = row; rules = rules }))
