-- What a caller in C is told of a section.
use Rattle.std.specs.Prelude.{◌≡◌, ◌⊎◌, ℕ, List, Option, Some, None}
use Rattle.dw_num.specs.declared.{refusal.Refusal.Refusal, target.Target.Target}
use Rattle.dw_section.specs.{Accepted.{Accepted, CheckFault}, Counts.AreCounts, Cut.Piece, Pieces.Pieces}
use Rattle.dw_library.specs.Answers.{ok, refused, out_of_memory, bad_argument, not_refused, told, no_entries}
use Rattle.dw_library.specs.declared.answer.{Counts.Counts, Refused.Refused}

-- so many CIEs and FDEs
abbrev pub HasCounts : Target → List ℕ → Counts → Type 0
HasCounts target s counts = (ps : List Piece) → Pieces target s ps → AreCounts ps (record { cies = counts.cies; fdes = counts.fdes })

-- the status, the counts and the refusal
abbrev pub IsChecked : Option Target → List ℕ → ℕ → Counts → Refused → Type 0
IsChecked None s status counts why = (status ≡ bad_argument) × (counts ≡ no_entries) × (why ≡ not_refused)
IsChecked (Some target) s status counts why =
    ((status ≡ ok) × Accepted target s × HasCounts target s counts × (why ≡ not_refused))
    ⊎ ((status ≡ refused) × ((r : Refusal) × CheckFault target s r × (why ≡ told 1 r)) × (counts ≡ no_entries))
    ⊎ ((status ≡ out_of_memory) × (counts ≡ no_entries) × (why ≡ not_refused))
