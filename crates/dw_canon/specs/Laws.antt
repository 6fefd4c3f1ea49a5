-- What holds of normal forms.
use Rattle.std.specs.Prelude.{◌≡◌, ◌↔◌, ℕ, ◌<◌, ◌≤◌, List, length, map}
use Rattle.dw_num.specs.{Input.AreBytes, declared.target.Target.Target}
use Rattle.dw_row.specs.Rows.{Rules}
use Rattle.dw_cfa.specs.{Location.row_starts, declared.instr.Instr.Instr}
use Rattle.dw_section.specs.{Accepted.Accepted, Meaning.{ChangesOf, Covers, FdeSays, RowStarts, RulesAt, total}, Meanings.SameMeaning, declared.lookup.Fde.Fde}
use Rattle.dw_canon.specs.{Members.{Member, changes_of}, Normal.IsNormalForm}

-- an accepted section has a normal form
abbrev pub NormalFormExists : Type 0
NormalFormExists = (target : Target) (s : List ℕ) → AreBytes s → Accepted target s → (n : List ℕ) × IsNormalForm target s n

-- and only one
abbrev pub NormalFormIsOne : Type 0
NormalFormIsOne = (target : Target) (s n m : List ℕ) → AreBytes s → IsNormalForm target s n → IsNormalForm target s m → n ≡ m

-- a normal form of at most 2,147,483,647 bytes is a list of bytes that is accepted, and says what its source says
abbrev pub MeaningIsKept : Type 0
MeaningIsKept = (target : Target) (s n : List ℕ) → AreBytes s → IsNormalForm target s n → length n ≤ 2147483647 → AreBytes n × Accepted target n × SameMeaning target s n

-- and is its own normal form
abbrev pub NormalAgain : Type 0
NormalAgain = (target : Target) (s n : List ℕ) → AreBytes s → IsNormalForm target s n → length n ≤ 2147483647 → IsNormalForm target n n

-- two sections have the same normal form exactly where they say the same
abbrev pub SameNormalForm : Type 0
SameNormalForm = (target : Target) (s t n m : List ℕ) → AreBytes s → AreBytes t → IsNormalForm target s n → IsNormalForm target t m → length n ≤ 2147483647 → length m ≤ 2147483647
    → (n ≡ m) ↔ SameMeaning target s t

-- an FDE of an accepted section starts at least as many rows as it has changes
abbrev pub FewestRows : Type 0
FewestRows = (target : Target) (s : List ℕ) (f : Fde) (changes : List (ℕ × Rules)) → AreBytes s → Accepted target s → f.begin < f.end → (h : ChangesOf target s f changes) → length changes ≤ row_starts h.instrs

-- an FDE of a normal form starts exactly as many
abbrev pub ExactRows : Type 0
ExactRows = (target : Target) (s n : List ℕ) (f : Fde) (changes : List (ℕ × Rules)) → AreBytes s → IsNormalForm target s n → length n ≤ 2147483647 → f.begin < f.end → (h : ChangesOf target n f changes) → row_starts h.instrs ≡ length changes

-- and so do all of them together
abbrev pub NormalRows : Type 0
NormalRows = (target : Target) (s n : List ℕ) → AreBytes s → (h : IsNormalForm target s n) → length n ≤ 2147483647 → RowStarts target n (total (map (λ (m : Member). length (changes_of m)) h.members))

-- no FDE of an accepted section starts fewer rows than the FDE of a normal form that covers the same addresses and has the same rules at each
abbrev pub NoneFewer : Type 0
NoneFewer = (target : Target) (s n t : List ℕ) (f : Fde) (changes : List (ℕ × Rules)) (initial instrs : List Instr) → AreBytes s → AreBytes t → IsNormalForm target s n → length n ≤ 2147483647 → Accepted target t → f.begin < f.end
    → ((a : ℕ) (row : Rules) → Covers a f → RulesAt target n a row → RulesAt target t a row) → (h : ChangesOf target n f changes) → FdeSays target t f.begin f.end initial instrs → row_starts h.instrs ≤ row_starts instrs
