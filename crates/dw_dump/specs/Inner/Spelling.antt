-- What the code and its proofs say beside Spelling.
use Rattle.std.specs.{Prelude.{◌≡◌, ◌≢◌, ℕ, suc, ◌==◌, if◌then◌else◌, List, [], ◌∷◌, ◌++◌, codes}, List.AllByRecursion}
use Rattle.dw_dump.specs.Spelling.{Hexadecimal}

-- the front of a line of memory
abbrev pub MemoryHead : ℕ → List ℕ → List ℕ → Type 0
MemoryHead start pairs line = (digits : List ℕ) × Hexadecimal start digits × (line ≡ codes "mem 0x" ++ (digits ++ (codes " " ++ pairs)))

-- no character of a text is this one
abbrev pub Lacks : ℕ → List ℕ → Type 0
Lacks kind text = AllByRecursion (λ c. c ≢ kind) text

-- how many characters stand before the first of a kind, or all of them
abbrev pub len_until : ℕ → List ℕ → ℕ
len_until kind [] = 0
len_until kind (c ∷ cs) = if c == kind then 0 else suc (len_until kind cs)
