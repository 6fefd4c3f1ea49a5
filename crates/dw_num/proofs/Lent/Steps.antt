-- One read after another: what is read is spelled, and what is spelled is read.
use Rattle.std.proofs.lemmas.List.{take_at as taken_at}
use Rattle.dw_num.specs.Front.{take_at}
use Rattle.dw_num.proofs.Words.{◌≡◌, ℕ, ◌+◌, List, [], ◌∷◌, ◌++◌, length, take, refl, sym, ap, subst, ◌∙◌, append_assoc, arith, le-ltb, ltb-false, nat_lt, length-append, length-take, drop_at, Target}
use Rattle.dw_num.proofs.{Words.{Input, Takes, behind, Read, address_at, fixed_at, ◌>>=◌, byte_count, Address}, Lent.FixedLaws.{byte_at_again, fixed_at_again}, Lent.LebLaws.{cond_not, done, ok_is, took}}
pub use Rattle.dw_num.proofs.Lent.LebLaws.{bind_ok, cond_ok}

-- what is left behind a front
pub taken_is : (i new : Input) (front : List ℕ) → Takes i front new → record { at = i.at + length front; bytes = new.bytes; target = i.target } ≡ new
taken_is i new front t = rw (← t.at, ← t.target) refl

-- two takes, one after the other, are one
pub Takes-then : (i j k : Input) (x y : List ℕ) → Takes i x j → Takes j y k → Takes i (x ++ y) k
Takes-then i j k x y p q = record {
  bytes = p.bytes ∙ ap (λ (t : List ℕ). x ++ t) q.bytes ∙ sym (append_assoc x y k.bytes);
  at = q.at ∙ ap (λ (n : ℕ). n + length y) p.at ∙ omega (arith, length-append x y);
  target = q.target ∙ p.target;
}

-- what b spells is read as x, wherever it stands and whatever follows
abbrev pub Again : {X : Type 0} → Target → (Input → Read X) → X → List ℕ → Type 0
Again {X} target read x b = (at : ℕ) (rest : List ℕ) → read (record { at = at; bytes = b ++ rest; target = target }) ≡ done (x, record { at = at + length b; bytes = rest; target = target })

pub again-then : {X Y : Type 0} (target : Target) (read : Input → Read X) (next : X × Input → Read Y) (x : X) (y : Y) (b c : List ℕ) → Again target read x b → Again target (λ i. next (x, i)) y c → Again target (λ i. read i >>= next) y (b ++ c)
again-then target read next x y b c first second at rest =
    let one = first at (c ++ rest) in
    let two = second (at + length b) rest in
    let place : (at + length b) + length c ≡ at + length (b ++ c) = omega (arith, length-append b c) in
    rw (append_assoc, one, two, place) refl

-- ---- bytes as they are

pub take_again : (target : Target) (n : ℕ) (b : List ℕ) → length b ≡ n → Again target (take_at n) b b
unfolding take_at
take_again target n b len at rest = rw (le-ltb (length (b ++ rest)) n (omega (arith, length-append b rest)), taken_at b rest n len, drop_at b rest n len, len) refl

pub take_found : (n : ℕ) (i new : Input) (b : List ℕ) → take_at n i ≡ done (b, new) → Takes i b new × (length b ≡ n)
unfolding take_at
take_found n i new b e =
    let k = cond_not (nat_lt (length i.bytes) n) _ _ (b, new) e in
    let long = ltb-false (length i.bytes) n k.0 in
    subst (λ (p : List ℕ × Input). Takes i p.0 p.1 × (length p.0 ≡ n)) (ok_is (take n i.bytes, behind n i) (b, new) k.1)
    (took i n long, omega (arith, length-take n i.bytes))

pub byte_again : (target : Target) (v : ℕ) → Again target (fixed_at 1) v (v ∷ [])
byte_again target v at rest = byte_at_again at target v rest

-- ---- numbers

pub address_again : (target : Target) (v : ℕ) (b : List ℕ) → Address target v b → Again target address_at v b
unfolding address_at
address_again target v b f at rest = fixed_at_again (byte_count target.size) at target v b rest f
