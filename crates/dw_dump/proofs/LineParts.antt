-- Words and prefixes of a line.
use Rattle.std.proofs.Common.{rules}
use Rattle.dw_dump.proofs.Words.{◌≡◌, ℕ, ◌+◌, ◌*◌, ◌<◌, List, [], ◌∷◌, ◌++◌, length, take, drop, Option, Some, None, refl, ap, subst, arith, add-one, inl, inr, length-append, option_and_then, codes, append_cancel_left, eqb_tells, Statement}
use Rattle.dw_dump.proofs.Words.{nothing, counter_is, register_is, memory_is, digit, number_behind, Hexadecimal, RegisterName, SkippedLine, CounterLine, RegisterLine, MemoryLine, LineSays, MemoryHead, Lacks, len_until}

-- ---- the first character of a kind

pub lacks_front : (kind : ℕ) (text : List ℕ) → Lacks kind (take (len_until kind text) text)
lacks_front kind [] = tt
lacks_front kind (c ∷ cs) = search (rules, lacks_front kind cs)

pub until_parts : (kind : ℕ) (text : List ℕ) → len_until kind text < length text → text ≡ take (len_until kind text) text ++ (kind ∷ drop (len_until kind text + 1) text)
until_parts kind [] lt = absurd (omega arith)
until_parts kind (c ∷ cs) lt = elim (eqb_tells c kind) [
  | inl same ↦ rw (same.0) (ap (λ (k : ℕ). k ∷ cs) same.1)
  | inr other ↦ rw (other.0) (rw add-one (ap (λ (rest : List ℕ). c ∷ rest) (rw add-one at (until_parts kind cs (omega (arith, rw (other.0) at lt))))))
]

pub len_until-word : (kind : ℕ) (word rest : List ℕ) → Lacks kind word → len_until kind (word ++ kind ∷ rest) ≡ length word
len_until-word kind [] rest lacks = search rules
len_until-word kind (c ∷ cs) rest lacks = search (rules, len_until-word kind cs rest lacks.1)

-- a text with a word and what ends it is longer than the word
pub word_within : (kind : ℕ) (prefix text word rest : List ℕ) → prefix ++ text ≡ prefix ++ (word ++ kind ∷ rest) → Lacks kind word → len_until kind text < length text
word_within kind prefix text word rest is lacks = rw (append_cancel_left prefix text (word ++ kind ∷ rest) is, len_until-word kind word rest lacks, length-append word (kind ∷ rest)) (omega arith)

pub record OneWord (a b c d : List ℕ) : Type 0 where
  pub word : a ≡ c
  pub rest : b ≡ d

pub one_word : (kind : ℕ) (a b c d : List ℕ) → Lacks kind a → Lacks kind c → a ++ (kind ∷ b) ≡ c ++ (kind ∷ d) → OneWord a b c d
one_word kind [] b [] d h k e = record { word = refl; rest = cc }
one_word kind [] b (z ∷ c) d h k e = let same : z ≡ kind = cc in absurd (k.0 same)
one_word kind (x ∷ a) b [] d h k e = let same : x ≡ kind = cc in absurd (h.0 same)
one_word kind (x ∷ a) b (z ∷ c) d h k e = search (rules, one_word kind a b c d h.1 k.1 (cc))

-- ---- digits are no space

some_digit : (f : ℕ → Option ℕ) (o : Option ℕ) (v : ℕ) → option_and_then f o ≡ Some v → (d : ℕ) × (f d ≡ Some v)
some_digit f None v is = let no : None ≡ Some v = is in absurd cc
some_digit f (Some d) v is = (d, is)

space_is_no_digit : (base before v : ℕ) (cs : List ℕ) → number_behind base before (32 ∷ cs) ≡ Some v → ⊥
space_is_no_digit base before v cs is = let no : None ≡ Some v = is in cc

pub digits_lack_space : (base before v : ℕ) (text : List ℕ) → number_behind base before text ≡ Some v → Lacks 32 text
digits_lack_space base before v [] is = tt
digits_lack_space base before v (c ∷ cs) is =
    let more = some_digit (λ (d : ℕ). number_behind base (before * base + d) cs) (digit base c) v is in (
      λ same. space_is_no_digit base before v cs (subst (λ (x : ℕ). number_behind base before (x ∷ cs) ≡ Some v) same is),
      digits_lack_space base (before * base + more.0) v cs more.1,
    )

-- ---- the parts of a line are those that it is cut into

pub record RegisterParts (r v : ℕ) (name text : List ℕ) : Type 0 where
  pub digits : List ℕ
  pub is_name : RegisterName r name
  pub is_value : Hexadecimal v digits
  pub behind : text ≡ codes "0x" ++ digits

pub register_parts : (line name text : List ℕ) → Lacks 32 name → line ≡ codes "r" ++ (name ++ (32 ∷ text)) → (r v : ℕ) → RegisterLine r v line → RegisterParts r v name text
register_parts line name text lacks is r v said = search (rules, one_word, digits_lack_space)

pub record MemoryParts (start : ℕ) (text digits pairs : List ℕ) : Type 0 where
  pub is_start : Hexadecimal start digits
  pub behind : pairs ≡ text

pub memory_parts : (line digits pairs : List ℕ) → Lacks 32 digits → line ≡ codes "mem 0x" ++ (digits ++ (32 ∷ pairs)) → (start : ℕ) (text : List ℕ) → MemoryHead start text line → MemoryParts start text digits pairs
memory_parts line digits pairs lacks is start text said = search (rules, one_word, digits_lack_space)

-- a line that has none of the forms says nothing
pub none_said : (line : List ℕ) → (SkippedLine line → ⊥) → ((v : ℕ) → CounterLine v line → ⊥) → ((r v : ℕ) → RegisterLine r v line → ⊥) → ((v : ℕ) (bytes : List ℕ) → MemoryLine v bytes line → ⊥) → (s : Statement) → LineSays line s → ⊥
none_said line no_skipped no_counter no_register no_memory nothing said = no_skipped said
none_said line no_skipped no_counter no_register no_memory (counter_is v) said = no_counter v said
none_said line no_skipped no_counter no_register no_memory (register_is r v) said = no_register r v said
none_said line no_skipped no_counter no_register no_memory (memory_is start bytes) said = no_memory start bytes said
