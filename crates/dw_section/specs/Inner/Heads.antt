-- What is asked of a section's headers.
use Rattle.std.specs.{Prelude.{◌≡◌, ℕ, ◌+◌, ◌<◌, ◌≤◌, true, List, Option, Some, None}, List.filter_map}
use Rattle.dw_num.specs.{Input.AreBytes, Span.Span, Target.address_limit, declared.target.Target.Target}
use Rattle.dw_section.specs.{Fields.is_among, Headers.{Head, cie, fde}, Inner.Places.RiseBy}

-- the place of an entry
abbrev pub head_at : Head → ℕ
head_at (cie c) = c.at
head_at (fde f) = f.at

abbrev pub head_program : Head → Span
head_program (cie c) = c.program
head_program (fde f) = f.program

-- the places of the CIEs
abbrev pub cie_at_of : Head → Option ℕ
cie_at_of (cie c) = Some c.at
cie_at_of (fde f) = None

abbrev pub cie_ats : List Head → List ℕ
cie_ats hs = filter_map cie_at_of hs

-- places from low on, ascending
abbrev pub HeadsRise : ℕ → List Head → Type 0
HeadsRise low hs = RiseBy head_at low hs

-- an FDE names one of these places, and its range lies in the address space
abbrev pub FdeFits : Target → List ℕ → Head → Type 0
FdeFits target places (cie c) = Unit {0}
FdeFits target places (fde f) =
    (f.begin < address_limit target.size) × (f.begin + f.range ≤ address_limit target.size) × (is_among f.cie_at places ≡ true)

abbrev pub HasBytes : Head → Type 0
HasBytes h = AreBytes (head_program h).bytes
