-- How the code keeps remembered rows: by the CFA's rule, and by how many changes of registers had
-- been listed. One row may be saved beneath all others.
use Rattle.std.specs.Prelude.{◌≡◌, ◌≤◌, ℕ, List, [], ◌∷◌, ◌++◌, Bool, true, false, IsTrue}
use Rattle.std.specs.Prelude.{Option, Some, None, drop, length, map, reverse}
use Rattle.dw_row.specs.{Rows.Rules, States.{Held, first_if}}
use Rattle.dw_row.specs.declared.{change_list.Change.Change, kept_row.KeptRow.KeptRow}
use Rattle.dw_row.specs.declared.{rule.RegRule.RegRule, states.Remembered.Remembered}
use Rattle.dw_row.specs.Inner.{Changes.registers_before, Kept.KeptSo}

-- a remembered row: what was changed since is taken back from the current registers
abbrev pub row_at : List (ℕ × RegRule) → List Change → Remembered → Rules
row_at registers changes r = record {
  cfa = r.cfa;
  registers = registers_before registers (drop r.from changes);
}

-- the remembered rows, the last first, and the registers before all changes
unfoldable pub rows_before : List (ℕ × RegRule) → List Change → List Remembered
    → List Rules × List (ℕ × RegRule)
rows_before registers changes remembered =
    (map (row_at registers changes) (reverse remembered), registers_before registers changes)

-- the row that is saved, beneath all others
abbrev pub saved_if : Bool → Rules → List Rules
saved_if true row = row ∷ []
saved_if false row = []

abbrev pub stacked : KeptRow → List Rules → List Rules
stacked saved rows = rows ++ saved_if saved.watched saved.row

abbrev pub shown : Bool → KeptRow → Rules → Rules → List Rules × List (ℕ × RegRule) → Held
shown tracked saved row kept before = record { row = row; stack = stacked saved before.0; first = first_if tracked before.1; kept = kept }

abbrev pub held : Bool → KeptRow → Rules → Rules → List Change → List Remembered → Held
held tracked saved row kept changes remembered =
    shown tracked saved row kept (rows_before row.registers changes remembered)

-- how many changes had been listed when the last row was remembered
abbrev pub from_of : Option Remembered → ℕ
from_of (Some r) = r.from
from_of None = 0

-- of remembered rows, the last first, none has more changes before it than the row above it
unfoldable pub Ascend : ℕ → List Remembered → Type 0
Ascend count [] = Unit {0}
Ascend count (r ∷ rows) = (r.from ≤ count) × Ascend r.from rows

-- nothing is listed unless `is_listed` says so; no row is saved where changes are tracked; and
-- before all that is listed, only marked registers were set since a row was saved
pub record StatesSo (tracked is_listed : Bool) (saved : KeptRow) (registers : List (ℕ × RegRule))
    (changes : List Change) (remembered : List Remembered) : Type 0 where
  pub unlisted : is_listed ≡ false → (tracked ≡ false) × (changes ≡ []) × (remembered ≡ [])
  pub untracked : IsTrue saved.watched → tracked ≡ false
  pub since : KeptSo saved registers
  pub ascend : Ascend (length changes) (reverse remembered)

-- both have the same registers before each of the changes up to the first `from`
abbrev pub SameBefore : ℕ → List (ℕ × RegRule) → List Change → List (ℕ × RegRule) → List Change
    → Type 0
SameBefore from registers changes registers' changes' = (n : ℕ) → n ≤ from
    → registers_before registers (drop n changes) ≡ registers_before registers' (drop n changes')

-- changes were taken back, up to the first `from`
abbrev pub TakenBack : ℕ → List (ℕ × RegRule) → List Change → List (ℕ × RegRule) → List Change
    → Type 0
TakenBack from registers changes registers' changes' =
    SameBefore from registers changes registers' changes' × (length changes' ≡ from)

-- the row that was saved is the current one again, or none was saved
abbrev pub SavedAgain : KeptRow → Rules → Bool → Type 0
SavedAgain saved row true = IsTrue saved.watched × (row ≡ saved.row)
SavedAgain saved row false = saved.watched ≡ false
