-- A signed LEB is read as it is spelled.
use Rattle.std.proofs.lemmas.List.{take_at}
use Rattle.dw_num.proofs.Words.{◌≡◌, ℕ, ◌+◌, ◌^◌, List, ◌++◌, length, take, true, ℤ, pos, negsuc, Option, Some, None, Ok, refl, sym, subst, arith, FitsSigned, w64, lt-ltb, ltb-true, drop_at, Target}
use Rattle.dw_num.proofs.{Words.{Input, AreBytes, Takes, behind, signed_groups, Sleb, leb_len, sleb_of, sleb_at, fits_signed}, Lent.LebLaws.{leb_len-front, leb_len-spelled, cond_ok, done, ok_is, took}}

fits_signed-true : (v : ℤ) → FitsSigned w64 v → fits_signed v ≡ true
fits_signed-true (pos n) h = lt-ltb n (2 ^ 63) (omega (arith, h))
fits_signed-true (negsuc n) h = lt-ltb n (2 ^ 63) (omega (arith, h))

signed_fits : (v : ℤ) → fits_signed v ≡ true → FitsSigned w64 v
signed_fits (pos n) h = let lt = ltb-true n (2 ^ 63) h in omega (arith, lt)
signed_fits (negsuc n) h = let lt = ltb-true n (2 ^ 63) h in omega (arith, lt)

pub sleb_again : (at : ℕ) (target : Target) (v : ℤ) (b rest : List ℕ) → Sleb v b → sleb_at (record { at = at; bytes = b ++ rest; target = target }) ≡ Ok (v, record { at = at + length b; bytes = rest; target = target })
unfolding sleb_at
sleb_again at target v b rest u =
    let fits : FitsSigned w64 (signed_groups b) = rw u.value at u.fits in
    rw (leb_len-spelled b rest u.shape, take_at b rest (length b) refl, drop_at b rest (length b) refl, fits_signed-true (signed_groups b) fits, u.value) refl

found_at : (o : Option ℕ) (i new : Input) (v : ℤ) → AreBytes i.bytes → leb_len i.bytes ≡ o → sleb_of o i ≡ Ok (v, new) → (b : List ℕ) × Sleb v b × Takes i b new
found_at None i new v are e h = absurd cc
found_at (Some n) i new v are e h =
    let front = leb_len-front i.bytes n are e in
    let z = signed_groups (take n i.bytes) in
    let k = cond_ok (fits_signed z) (done (z, behind n i)) _ (v, new) h in
    subst (λ (p : ℤ × Input). (b : List ℕ) × Sleb p.0 b × Takes i b p.1) (ok_is (z, behind n i) (v, new) k.1)
    (take n i.bytes, record { shape = front.0; value = refl; fits = signed_fits z k.0 }, took i n front.1)

pub sleb_found : (i new : Input) (v : ℤ) → AreBytes i.bytes → sleb_at i ≡ Ok (v, new) → (b : List ℕ) × Sleb v b × Takes i b new
unfolding sleb_at
sleb_found i new v are h = found_at (leb_len i.bytes) i new v are refl h

pub sleb_only : (i : Input) (v : ℤ) (b rest : List ℕ) → Sleb v b → i.bytes ≡ b ++ rest → sleb_at i ≡ Ok (v, record { at = i.at + length b; bytes = rest; target = i.target })
sleb_only i v b rest u e =
    subst (λ (bs : List ℕ). sleb_at (record { at = i.at; bytes = bs; target = i.target }) ≡ Ok (v, record { at = i.at + length b; bytes = rest; target = i.target })) (sym e) (sleb_again i.at i.target v b rest u)
