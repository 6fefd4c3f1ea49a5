-- Lines of addresses, one behind another.
use Rattle.dw_show.proofs.Words.{◌≡◌, ◌∙◌, ℕ, zero, suc, ◌+◌, ◌<◌, ◌≤◌, Bool, true, false, List, [], ◌∷◌, ◌++◌, length, take, drop, Option, Some, None, Result, Ok, Err, refl, sym, ap, arith, inl, inr, ◌==◌, append_assoc, append-nil}
use Rattle.dw_show.proofs.Words.{length-drop, Size, addresses_of, behind_line, ReadUpTo, behind, line_len}
use Rattle.std.proofs.lemmas.Bool.Decides.{eqb_tells}
use Rattle.dw_dump.specs.Lines.{in_front, lines_of}
use Rattle.dw_values.specs.Values.{address}

-- ---- the first line

first_line : (text : List ℕ) → 0 < length text → lines_of text ≡ take (line_len text) text ∷ lines_of (drop (suc (line_len text)) text)
first_line [] some = absurd (omega arith)
first_line (c ∷ []) some = elim (eqb_tells c 10) [
  | inl same ↦ rw (same.0) refl
  | inr other ↦ rw (other.0) refl
]
first_line (c ∷ e ∷ cs) some = elim (eqb_tells c 10) [
  | inl same ↦ rw (same.0) refl
  | inr other ↦ let rest = first_line (e ∷ cs) (omega arith) in rw (other.0) (ap (in_front c) rest)
]

lines_first : (text : List ℕ) (n : ℕ) → n ≡ line_len text → 0 < length text → lines_of text ≡ take n text ∷ lines_of (drop (suc n) text)
lines_first text n is some = rw is (first_line text some)

-- a text that is not empty has characters
pub some_left : (n : ℕ) (b : Bool) → b ≡ (n == 0) → b ≡ false → 0 < n
some_left zero b is not = absurd (let same : true ≡ false = sym is ∙ not in cc)
some_left (suc n) b is not = omega arith

pub none_left : (n : ℕ) (b : Bool) → b ≡ (n == 0) → b ≡ true → n ≡ 0
none_left n b is holds = elim (eqb_tells n 0) [
  | inl same ↦ same.1
  | inr other ↦ absurd (let bad : true ≡ false = sym holds ∙ is ∙ other.0 in cc)
]

-- ---- reading

-- what the lines of a text say, by the first of them
first_says : (size : Size) (line n : ℕ) (rest : List ℕ) (o : Option ℕ) → n ≡ line_len rest → 0 < length rest → address size (take n rest) ≡ o
    → addresses_of size line (lines_of rest) ≡ behind_line o line (addresses_of size (suc line) (lines_of (drop (suc n) rest)))
first_says size line n rest o is some says =
    ap (addresses_of size line) (lines_first rest n is some) ∙ ap (λ (a : Option ℕ). behind_line a line (addresses_of size (suc line) (lines_of (drop (suc n) rest)))) says

more_says : (done : List ℕ) (a line : ℕ) (r : Result (List ℕ) ℕ) → behind done (behind_line (Some a) line r) ≡ behind (done ++ a ∷ []) r
more_says done a line (Ok more) = ap (λ (l : List ℕ). said l) (sym (append_assoc done (a ∷ []) more))
  where
    said : List ℕ → Result (List ℕ) ℕ
    said l = Ok l
more_says done a line (Err number) = refl

pub read_none : (size : Size) (text : List ℕ) (old : List ℕ) → ReadUpTo size text text 1 old old
read_none size text old = record {
  done = [];
  are = sym (append-nil old);
  left = all (addresses_of size 1 (lines_of text));
  room = omega arith;
}
  where
    all : (r : Result (List ℕ) ℕ) → r ≡ behind [] r
    all (Ok more) = refl
    all (Err number) = refl

-- one line more
pub read_more : (size : Size) (text rest behind_rest : List ℕ) (line n a : ℕ) (old new newer : List ℕ) → ReadUpTo size text rest line old new → n ≡ line_len rest → n ≤ length rest → 0 < length rest
    → Some a ≡ address size (take n rest) → behind_rest ≡ drop (n + 1) rest → newer ≡ new ++ a ∷ [] → ReadUpTo size text behind_rest (line + 1) old newer
read_more size text rest behind_rest line n a old new newer h is within some says after pushed =
    let one : n + 1 ≡ suc n = omega arith in
    let next : line + 1 ≡ suc line = omega arith in
    let left = length-drop (n + 1) rest in
    let room = h.room in
    rw (after, pushed) (record {
      done = h.done ++ a ∷ [];
      are = ap (λ (l : List ℕ). l ++ a ∷ []) h.are ∙ append_assoc old h.done (a ∷ []);
      left = rw (one, next) (h.left ∙ ap (behind h.done) (first_says size line n rest (Some a) is some (sym says)) ∙ more_says h.done a line (addresses_of size (suc line) (lines_of (drop (suc n) rest))));
      room = omega arith;
    })

-- a line that says no address
pub read_bad : (size : Size) (text rest : List ℕ) (line n : ℕ) (old new : List ℕ) → ReadUpTo size text rest line old new → n ≡ line_len rest → 0 < length rest
    → None ≡ address size (take n rest) → addresses_of size 1 (lines_of text) ≡ Err line
read_bad size text rest line n old new h is some says = h.left ∙ ap (behind h.done) (first_says size line n rest None is some (sym says))

-- all lines
pub read_all : (size : Size) (text rest : List ℕ) (line : ℕ) (old new : List ℕ) → ReadUpTo size text rest line old new → length rest ≡ 0
    → (more : List ℕ) × (addresses_of size 1 (lines_of text) ≡ Ok more) × (new ≡ old ++ more)
read_all size text [] line old new h none = (h.done, h.left ∙ ap (λ (l : List ℕ). ok l) (append-nil h.done), h.are)
  where
    ok : List ℕ → Result (List ℕ) ℕ
    ok l = Ok l
read_all size text (c ∷ rest) line old new h none = absurd (omega (arith, none))
