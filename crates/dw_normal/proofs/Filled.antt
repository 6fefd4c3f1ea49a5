-- What stands behind the length of an FDE, as it is built.
use Rattle.dw_normal.proofs.Words.{rules, ◌≡◌, ℕ, ◌-◌, ◌≤◌, List, [], ◌∷◌, ◌++◌, length, Result, Ok, Err, refl, sym, subst, ap, ◌∙◌, arith, append_assoc, OnOk, IsErrAnd, replicate, length-append, Target, Rules, fde_instrs, initial_of, difference}
use Rattle.dw_normal.proofs.{Words.{later_changes, Member, program_bytes, fde, nop_count, filled, contents, missing, fde_field_bytes, IsBegun, later_bytes, shown_row, Begun, Size}, Passes.program_more}
use Rattle.dw_normal.proofs.Words.{Output, Stop, Full, Failed, Memory, Fills, Holds}

-- ---- an entry to which bytes are appended

-- nothing of it is forgotten yet
pub holds_all : (out : Output) → out.gone ≡ 0 → Holds out out.bytes.items
holds_all out none = record { lost = []; whole = refl; gone = none; within = omega (arith, none); kept = λ is. refl }

pub fills_as : (bytes all : List ℕ) (r : Result Unit Stop) (old start new : Output) → old.room ≡ start.room → bytes ≡ all → Fills bytes r old new → Fills all r start new
fills_as bytes all (Ok x) old start new same is h = subst (Holds new) is h
fills_as bytes all (Err Full) old start new same is h = omega (arith, same, ap length is, h)
fills_as bytes all (Err Failed) old start new same is h = h
fills_as bytes all (Err Memory) old start new same is h = tt

-- what stops a beginning stops the whole, where `?` hands it on
pub fills_more : (bytes all : List ℕ) (r : Result Unit Stop) (e : Stop) (old start new : Output) → IsErrAnd r (λ (x : Stop). x ≡ e) → old.room ≡ start.room → length bytes ≤ length all → Fills bytes (Err e) old new → Fills all r start new
fills_more bytes all (Ok x) e old start new is same le h = absurd is
fills_more bytes all (Err x) e old start new is same le h = subst (λ (y : Stop). Fills all (Err y) start new) (sym is) (by_error e h)
  where
    by_error : (y : Stop) → Fills bytes (Err y) old new → Fills all (Err y) start new
    by_error Full h = omega (arith, same, le, h)
    by_error Failed h = h
    by_error Memory h = tt

-- what leads to all, and is not all yet
pub left_more : {out : Output} {mid : List ℕ} (h : Holds out mid) (after rest all : List ℕ) → mid ++ rest ≡ all → (left : List ℕ) → after ++ left ≡ out.bytes.items ++ rest → (h.lost ++ after) ++ left ≡ all
left_more {out = out} h after rest all whole left e =
    append_assoc h.lost after left ∙ ap (λ (l : List ℕ). h.lost ++ l) e ∙ sym (append_assoc h.lost out.bytes.items rest) ∙ ap (λ (l : List ℕ). l ++ rest) (sym h.whole) ∙ whole

-- ---- the whole

-- room, fields, a program behind them, and the nops
pub filled_is : (size : Size) (room fields program out new : List ℕ) → length room ≡ 4 → out ≡ room ++ (fields ++ program) → new ≡ out ++ replicate (missing size (length out)) 0
    → new ≡ room ++ (fields ++ filled (nop_count size fields program) program)
filled_is size room fields program out new four is nops = search (rules, length, length-append, replicate, missing, append_assoc)

-- what stands before the program of a CIE
pub cie_begun : (cleared room id reg program one two three four out : List ℕ) (size : ℕ) → cleared ≡ [] → one ≡ cleared ++ room → two ≡ one ++ id → three ≡ two ++ 4 ∷ 0 ∷ size ∷ 0 ∷ 1 ∷ 127 ∷ [] → four ≡ three ++ reg
    → out ≡ four ++ program → out ≡ room ++ ((id ++ 4 ∷ 0 ∷ size ∷ 0 ∷ 1 ∷ 127 ∷ reg) ++ program)
cie_begun cleared room id reg program one two three four out size a b c d e f = search (rules, append_assoc)

same_all : (f : ℕ → ℕ → Rules → Rules → ℕ → List (ℕ × Rules) → List ℕ) (a b : ℕ) (c d : Rules) (e : ℕ) (g : List (ℕ × Rules)) (a' b' : ℕ) (c' d' : Rules) (e' : ℕ) (g' : List (ℕ × Rules))
    → a ≡ a' → b ≡ b' → c ≡ c' → d ≡ d' → e ≡ e' → g ≡ g' → f a b c d e g ≡ f a' b' c' d' e' g'
same_all f a b c d e g a' b' c' d' e' g' i j k l m n = cc

-- an FDE's contents by its parts
abbrev parts : Target → ℕ → ℕ → ℕ → Rules → Rules → ℕ → List (ℕ × Rules) → List ℕ
parts t cie_at begin range shared first from later =
    contents t (fde cie_at begin range (difference shared shared first ++ later_changes shared from first later) (program_bytes t (difference shared shared first ++ later_changes shared from first later)))

pub fde_filled : (t : Target) (ms : List Member) (m : Member) (b : Begun) (cie_at from : ℕ) (cleared fields first out new : List ℕ) → IsBegun ms m b → from ≡ b.fde.begin → length cleared ≡ 4
    → fields ≡ cleared ++ fde_field_bytes t cie_at b.fde.begin (b.fde.end - from) → first ≡ fields ++ program_bytes t (difference b.shared.now b.shared.now (shown_row b.changes)) → out ≡ first ++ later_bytes t b.shared.now from b.changes
    → new ≡ out ++ replicate (missing t.size (length out)) 0 → new ≡ cleared ++ contents t (fde cie_at m.begin (m.end - m.begin) (fde_instrs (initial_of ms m.register) m) (program_bytes t (fde_instrs (initial_of ms m.register) m)))
fde_filled t ms m b cie_at from cleared fields first out new is at none f d l n = search (rules, fde_field_bytes, fde, difference, shown_row, later_changes, program_bytes, append_assoc, program_more, filled_is, same_all, initial_of)

pub on_ok : {A E : Type 0} (r : Result A E) (P Q : Type 0) → (P → Q) → OnOk r P → OnOk r Q
on_ok (Ok x) P Q to h = to h
on_ok (Err e) P Q to h = tt
