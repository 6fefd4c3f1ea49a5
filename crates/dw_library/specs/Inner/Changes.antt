-- How the code keeps what it tells of changes.
use Rattle.std.specs.Prelude.{◌≡◌, ◌⊎◌, ℕ, List, [], ◌∷◌, ◌++◌, Result, Ok, Err}
use Rattle.dw_num.specs.declared.target.Target.{Target}
use Rattle.dw_row.specs.Rows.{Rules}
use Rattle.dw_section.specs.{Ranges.{Ranged, Uncovered}, declared.lookup.Fde.Fde}
use Rattle.dw_section.specs.declared.standing_fde.{LookUpError.LookUpError, LookUpError.TheVariants.OutOfMemory}
use Rattle.dw_library.specs.{Changes.{AreWritten, TellsCovering, TellsStanding, Told, says}, declared.index.Rule.Rule, declared.rows.{Change.Change, Totals.Totals}}

-- one more change is written behind those that were written before
abbrev pub WritesMore : Fde → ℕ × Rules → List Change → List Rule → Totals → List Change → List Rule → Totals → Type 0
WritesMore f change out rules n new_out new_rules new_n =
    (done : List (ℕ × Rules)) (changes : List Change) (buffer : List Rule)
    → AreWritten f done changes buffer out rules n → AreWritten f (done ++ change ∷ []) changes buffer new_out new_rules new_n

-- changes are told by the index of an accepted section, or memory was wanting
abbrev pub CoveringOwn : Target → List ℕ → ℕ → List Change → List Rule → List Change → List Rule → Totals → Result ℕ LookUpError → Type 0
CoveringOwn target s a changes rules new_changes new_rules needed (Ok status) =
    let t : Told = record { status = status; changes = new_changes; rules = new_rules; needed = needed } in TellsCovering target s a changes rules t
CoveringOwn target s a changes rules new_changes new_rules needed (Err e) = e ≡ OutOfMemory

-- and by any index, if they are told
abbrev pub CoveringAny : Target → List ℕ → List Ranged → ℕ → List Change → List Rule → List Change → List Rule → Totals → Result ℕ LookUpError → Type 0
CoveringAny target s index a changes rules new_changes new_rules needed (Ok status) =
    let t : Told = record { status = status; changes = new_changes; rules = new_rules; needed = needed } in
    TellsStanding target s index a changes rules t ⊎ (Uncovered index a × (t ≡ says 5 changes rules))
CoveringAny target s index a changes rules new_changes new_rules needed (Err e) = Unit {0}
