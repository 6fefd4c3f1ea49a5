-- Nops that are appended, as many as there may be, of which what is not missing goes.
use Rattle.dw_normal.proofs.Words.{◌≡◌, ℕ, ◌+◌, ◌-◌, ◌≤◌, List, ◌++◌, length, take, replicate, arith, sym, ap, ◌∙◌, append_assoc, length-append, missing, take-append-add, ◌%◌, ◌/◌, ◌*◌, Size, take-replicate}
use Rattle.dw_num.specs.declared.target.Size.TheVariants.{Four, Eight}
use Rattle.std.proofs.lemmas.Nat.{mod_below}

-- a length is rounded up to a multiple of the width by what is missing
pub up_to_four : (n : ℕ) → (n + 3) / 4 * 4 ≡ n + (4 - n % 4) % 4
up_to_four n = omega arith

pub up_to_eight : (n : ℕ) → (n + 7) / 8 * 8 ≡ n + (8 - n % 8) % 8
up_to_eight n = omega arith

missing_below : (size : Size) (n : ℕ) → missing size n ≤ 8
missing_below Four n = omega (arith, mod_below (4 - n % 4) 4 (omega arith))
missing_below Eight n = omega (arith, mod_below (8 - n % 8) 8 (omega arith))

nops_left : (size : Size) (old : List ℕ) (n : ℕ) → take (length old + missing size n) (old ++ replicate 8 0) ≡ old ++ replicate (missing size n) 0
nops_left size old n =
    take-append-add old (replicate 8 0) (missing size n)
    ∙ ap (λ (l : List ℕ). old ++ l) (take-replicate (missing size n) 8 0 (missing_below size n))

-- behind bytes of which a beginning is forgotten
pub nops_behind : (size : Size) (lost bytes front longer left : List ℕ) (gone n all : ℕ) → front ≡ lost ++ bytes → gone ≡ length lost → n ≡ gone + length bytes → longer ≡ bytes ++ replicate 8 0
    → all ≡ n + missing size n → left ≡ take (all - gone) longer → front ++ replicate (missing size (length front)) 0 ≡ lost ++ left
nops_behind size lost bytes front longer left gone n all is none long more filled cut =
    let len : length front ≡ n = ap length is ∙ length-append lost bytes ∙ omega (arith, none, long) in
    let end : all - gone ≡ length bytes + missing size n = omega (arith, filled, long) in
    let here : left ≡ bytes ++ replicate (missing size n) 0 = cut ∙ ap (λ (l : List ℕ). take (all - gone) l) more ∙ ap (λ (k : ℕ). take k (bytes ++ replicate 8 0)) end ∙ nops_left size bytes n in
    ap (λ (k : ℕ). front ++ replicate (missing size k) 0) len ∙ ap (λ (l : List ℕ). l ++ replicate (missing size n) 0) is ∙ append_assoc lost bytes (replicate (missing size n) 0) ∙ ap (λ (l : List ℕ). lost ++ l) (sym here)
