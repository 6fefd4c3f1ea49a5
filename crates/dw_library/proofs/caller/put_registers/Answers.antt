use Rattle.dw_library.proofs.Words.{◌≡◌, ℕ, suc, ◌+◌, ◌<◌, List, [], ◌∷◌, ◌++◌, length, take, drop, map, get_or, slice_set, sym, ap, subst, ◌∙◌, arith, Option, None, take-suc, length-map}
use Rattle.dw_library.proofs.{Words.{length-take-le, map_push, Register, told_register}, Written.put_next}
use Rattle.dw_library.proofs.caller.put_registers.Goals as goal

told_next : (entries : List (ℕ × Option ℕ)) (old : List Register) (n : ℕ) → n < length entries → n < length old
    → slice_set (map told_register (take n entries) ++ drop n old) n (told_register (get_or entries n (0, None))) ≡ map told_register (take (n + 1) entries) ++ drop (n + 1) old
told_next entries old n lt fits =
    let done = map told_register (take n entries) in
    let r = told_register (get_or entries n (0, None)) in
    let next : suc n ≡ n + 1 = omega arith in
    let long : length done ≡ n = length-map (take n entries) told_register ∙ length-take-le n entries (omega arith) in
    let more : done ++ r ∷ [] ≡ map told_register (take (n + 1) entries) =
    sym (map_push told_register (take n entries) (get_or entries n (0, None))) ∙ ap (map told_register) (sym (take-suc entries n (0, None) lt) ∙ ap (λ (k : ℕ). take k entries) next) in
    subst (λ (k : ℕ). slice_set (done ++ drop k old) k r ≡ (done ++ r ∷ []) ++ drop (k + 1) old) long (put_next done old r (omega (arith, long)))
    ∙ ap (λ (l : List Register). l ++ drop (n + 1) old) more

pub entries-preserved : goal.entries-preserved
entries-preserved c =
    let a = c.args in
    let at = c.entries.place in
    rw (c.told_register.ensures, c.entries.invariant) (told_next a.entries.now a.out.now at c.entries-test.true (omega (arith, c.entries-test.true, c.if-out-entries.false)))
