-- What a caller in C is told of the rows of an FDE.
use Rattle.std.specs.{Prelude.{◌≡◌, ◌⊎◌, ◌-◌, ◌^◌, ◌<◌, ◌≤◌, ℕ, List, length, map, min, Option, Some, None}, List.flat_map}
use Rattle.dw_num.specs.declared.{refusal.Refusal.Refusal, target.Target.Target}
use Rattle.dw_row.specs.Rows.{Rules}
use Rattle.dw_op.specs.Faults.{IsWithin}
use Rattle.dw_section.specs.{Accepted.{Accepted, CheckFault}, Among.IsAmong, Meaning.{AreFdes, ChangesOf, Covers, NoneCovers}, declared.lookup.Fde.Fde}
use Rattle.dw_section.specs.{Ranges.{IsTable, LeadsTo, Ranged, Uncovered}, StandingChanges.{ChangesFault, StandingChanges}, StandingFde.Misleads}
use Rattle.dw_library.specs.{Answers.{ok, refused, out_of_memory, bad_argument, too_short, not_refused, told}, Index.{over, row_of, rule_of}}
use Rattle.dw_library.specs.declared.{answer.Refused.Refused, rows.Change.Change, rows.Totals.Totals, index.Rule.Rule}

-- ---- changes as they are told

-- an address at which the rules of an FDE change, and the row there
abbrev pub change_of : Fde → ℕ × Rules → Change
change_of f change = record { address = change.0; row = row_of f change.1 }

-- the rules of all their registers, one after another
abbrev pub rules_in : List (ℕ × Rules) → List Rule
rules_in changes = flat_map (λ change. map rule_of change.1.registers) changes

-- changes of an FDE over the front of a buffer, and their rules over that of another, as many as fit; and how many there are of both
pub record AreWritten (f : Fde) (told : List (ℕ × Rules)) (changes : List Change) (rules : List Rule) (new_changes : List Change) (new_rules : List Rule) (n : Totals) : Type 0 where
  pub changes_are : new_changes ≡ over (map (change_of f) told) changes
  pub rules_are : new_rules ≡ over (rules_in told) rules
  pub change_count : n.changes ≡ min (length told) (2 ^ 64 - 1)
  pub rule_count : n.rules ≡ min (length (rules_in told)) (2 ^ 64 - 1)

-- ---- what is told

-- what a call tells
pub record Told : Type 0 where
  pub status : ℕ
  pub changes : List Change
  pub rules : List Rule
  pub needed : Totals

abbrev pub no_totals : Totals
no_totals = record { changes = 0; rules = 0 }

-- a status alone
abbrev pub says : ℕ → List Change → List Rule → Told
says status changes rules = record { status = status; changes = changes; rules = rules; needed = no_totals }

-- whether so many changes and rules fit into two rooms
abbrev pub Fits : Totals → ℕ → ℕ → ℕ → Type 0
Fits n changes rules status =
    ((status ≡ ok) × (n.changes ≤ changes) × (n.rules ≤ rules))
    ⊎ ((status ≡ too_short) × ((changes < n.changes) ⊎ (rules < n.rules)))

-- the changes of an FDE
abbrev pub TellsChanges : Target → List ℕ → Fde → List Change → List Rule → Told → Type 0
TellsChanges target s f changes rules t =
    (all : List (ℕ × Rules)) × ChangesOf target s f all × AreWritten f all changes rules t.changes t.rules t.needed × Fits t.needed (length changes) (length rules) t.status

-- those of the FDE that covers an address, or that none does, or that memory ran out, and then the buffers hold anything
abbrev pub TellsCovering : Target → List ℕ → ℕ → List Change → List Rule → Told → Type 0
TellsCovering target s a changes rules t =
    ((f : Fde) × ((fs : List Fde) → AreFdes target s fs → IsAmong f fs) × Covers a f × TellsChanges target s f changes rules t)
    ⊎ (((fs : List Fde) → AreFdes target s fs → NoneCovers a fs) × (t ≡ says 5 changes rules))
    ⊎ ((t.status ≡ out_of_memory) × (t.needed ≡ no_totals))

-- by a section that is accepted; or why there are none
abbrev pub AreAllChanges : Option Target → List ℕ → ℕ → List Change → List Rule → Told → Refused → Type 0
AreAllChanges None s a changes rules t why = (t ≡ says bad_argument changes rules) × (why ≡ not_refused)
AreAllChanges (Some target) s a changes rules t why =
    (Accepted target s × TellsCovering target s a changes rules t × (why ≡ not_refused))
    ⊎ ((r : Refusal) × CheckFault target s r × (t ≡ says refused changes rules) × (why ≡ told 1 r))
    ⊎ ((t ≡ says out_of_memory changes rules) × (why ≡ not_refused))

-- ---- by an index that the caller keeps

-- the changes of the FDE that stands where an index leads
abbrev pub TellsStanding : Target → List ℕ → List Ranged → ℕ → List Change → List Rule → Told → Type 0
TellsStanding target s index a changes rules t =
    (f : Fde) × (at : ℕ) × LeadsTo index a at × Covers a f
    × ((all : List (ℕ × Rules)) × StandingChanges target s at f all × AreWritten f all changes rules t.changes t.rules t.needed × Fits t.needed (length changes) (length rules) t.status)

-- by the index of an accepted section
abbrev pub AreOwnChanges : Option Target → List ℕ → List Ranged → ℕ → List Change → List Rule → Told → Refused → Type 0
AreOwnChanges None s index a changes rules t why = (t ≡ says bad_argument changes rules) × (why ≡ not_refused)
AreOwnChanges (Some target) s index a changes rules t why = IsTable target s index → TellsCovering target s a changes rules t × (why ≡ not_refused)

-- By any index: those of what stands there, or that the index has no entry, or a bad one; or that memory ran out, or what stands there
-- is refused, and then the buffers hold anything.
abbrev pub AreAnyChanges : Option Target → List ℕ → List Ranged → ℕ → List Change → List Rule → Told → Refused → Type 0
AreAnyChanges None s index a changes rules t why = (t ≡ says bad_argument changes rules) × (why ≡ not_refused)
AreAnyChanges (Some target) s index a changes rules t why =
    ((TellsStanding target s index a changes rules t
    ⊎ (Uncovered index a × (t ≡ says 5 changes rules))
    ⊎ (Misleads target s index a × (t ≡ says 10 changes rules))
    ⊎ ((t.status ≡ out_of_memory) × (t.needed ≡ no_totals))) × (why ≡ not_refused))
    ⊎ ((r : Refusal) × IsWithin s r × ChangesFault target s index a r × (t.status ≡ refused) × (t.needed ≡ no_totals) × (why ≡ told 1 r))
