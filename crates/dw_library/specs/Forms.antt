-- What a caller in C is told of a normal form, and of two sections.
use Rattle.std.specs.Prelude.{◌≡◌, ◌⊎◌, ◌≤◌, ℕ, List, length, Option, Some, None, nat_eq, if◌then◌else◌}
use Rattle.dw_num.specs.declared.{refusal.Refusal.Refusal, target.Target.Target}
use Rattle.dw_section.specs.{Accepted.Accepted, Meanings.SameMeaning}
use Rattle.dw_canon.specs.Normal.{IsNormalForm}
use Rattle.dw_normal.specs.{Answers.{NormalFault, SameFault}, declared.error.Which.Which, declared.error.Which.TheVariants.{First, Second}}
use Rattle.dw_normal.specs.declared.error.SameError.TheVariants as same_error
use Rattle.dw_library.specs.{Answers.{AreAtFront, ok, refused, out_of_memory, bad_argument, not_refused, target_of, told}, declared.answer.Refused.Refused}

-- the machine of two sections, where it is one
abbrev pub target_of_both : ℕ → ℕ → ℕ → ℕ → Option Target
target_of_both size order other_size other_order =
    if nat_eq size other_size then (if nat_eq order other_order then target_of size order else None) else None

-- the status, the buffer before and after, the length of the normal form, and the refusal
abbrev pub IsNormalised : Option Target → List ℕ → ℕ → List ℕ → List ℕ → ℕ → Refused → Type 0
IsNormalised None s status old new count why = (status ≡ bad_argument) × (new ≡ old) × (count ≡ 0) × (why ≡ not_refused)
IsNormalised (Some target) s status old new count why =
    (((n : List ℕ) × IsNormalForm target s n × (length n ≤ 2147483647) × (count ≡ length n) × AreAtFront n old status new) × (why ≡ not_refused))
    ⊎ ((status ≡ refused) × ((r : Refusal) × NormalFault target 2147483647 s r × (why ≡ told 1 r)) × (new ≡ old) × (count ≡ 0))
    ⊎ ((status ≡ out_of_memory) × (new ≡ old) × (count ≡ 0) × (why ≡ not_refused))

-- two sections say the same, or they do not
abbrev pub Tells : Target → List ℕ → List ℕ → ℕ → Type 0
Tells target a b alike = ((alike ≡ 1) × SameMeaning target a b) ⊎ ((alike ≡ 0) × (SameMeaning target a b → ⊥))

abbrev pub section_of : Which → ℕ
section_of First = 1
section_of Second = 2

-- the status, whether they say the same, and the refusal
abbrev pub IsCompared : Option Target → List ℕ → List ℕ → ℕ → ℕ → Refused → Type 0
IsCompared None a b status alike why = (status ≡ bad_argument) × (alike ≡ 0) × (why ≡ not_refused)
IsCompared (Some target) a b status alike why =
    ((status ≡ ok) × Accepted target a × Accepted target b × Tells target a b alike × (why ≡ not_refused))
    ⊎ ((status ≡ refused) × ((which : Which) × (r : Refusal) × SameFault target 2147483647 a b (same_error.Refused which r) × (why ≡ told (section_of which) r)) × (alike ≡ 0))
    ⊎ ((status ≡ out_of_memory) × (alike ≡ 0) × (why ≡ not_refused))
