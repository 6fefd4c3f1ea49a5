-- Lines, one after the other.
use Rattle.dw_dump.specs.Inner.Gathered.{SoFar}
use Rattle.dw_dump.proofs.Words.{◌≡◌, ℕ, zero, suc, ◌+◌, ◌<◌, ◌≤◌, Bool, true, false, List, [], ◌∷◌, ◌++◌, length, take, drop, refl, sym, ap, ◌∙◌, arith, add-one, inl, inr}
use Rattle.dw_dump.proofs.{Words.{append_assoc, length-append, length-drop, ◌==◌, eqb_tells, Gathered, SaysWithin, Keeps, lines_of, in_front, len_until, Statement}, Lent.Elements.zip_push}

first_line : (text : List ℕ) → 0 < length text → lines_of text ≡ take (len_until 10 text) text ∷ lines_of (drop (suc (len_until 10 text)) text)
first_line [] some = absurd (omega arith)
first_line (c ∷ []) some = elim (eqb_tells c 10) [
  | inl same ↦ rw (same.0) refl
  | inr other ↦ rw (other.0) refl
]
first_line (c ∷ e ∷ cs) some = elim (eqb_tells c 10) [
  | inl same ↦ rw (same.0) refl
  | inr other ↦ let rest = first_line (e ∷ cs) (omega arith) in rw (other.0) (ap (in_front c) rest)
]

pub lines_first : (text : List ℕ) (n : ℕ) → n ≡ len_until 10 text → 0 < length text → lines_of text ≡ take n text ∷ lines_of (drop (n + 1) text)
lines_first text n is some = rw (is, add-one) (first_line text some)

-- one more line
pub so_far_more : {limit : ℕ} {text rest behind : List ℕ} {line n : ℕ} {old new : Gathered} (s : Statement) (h : SoFar limit text rest line old) → n ≡ len_until 10 rest → n ≤ length rest → 0 < length rest
    → SaysWithin limit (take n rest) s → Keeps limit new (h.statements ++ s ∷ []) → behind ≡ drop (n + 1) rest → SoFar limit text behind (line + 1) new
so_far_more {limit} {text} {rest} {n = n} s h is within some said keeps after = record {
  read = h.read ++ take n rest ∷ [];
  statements = h.statements ++ s ∷ [];
  each = zip_push (SaysWithin limit) h.read h.statements (take n rest) s h.each said;
  keeps = keeps;
  parts = h.parts ∙ ap (λ (ls : List (List ℕ)). h.read ++ ls) (lines_first rest n is some) ∙ rw after (sym (append_assoc h.read (take n rest ∷ []) (lines_of (drop (n + 1) rest))));
  count = let all = length-append h.read (take n rest ∷ []) in let count = h.count in omega arith;
  room = let room = h.room in let left = length-drop (n + 1) rest in rw after (omega arith);
}

-- a list that is not empty has elements
pub some_left : (n : ℕ) (b : Bool) → b ≡ (n == 0) → b ≡ false → 0 < n
some_left zero b is not = absurd (let same : true ≡ false = sym is ∙ not in cc)
some_left (suc n) b is not = omega arith
