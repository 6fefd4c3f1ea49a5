-- Reading a LEB from the front of a list, and the spellings of a number.
use Rattle.dw_num.proofs.Words.{◌≡◌, ℕ, suc, ◌+◌, ◌^◌, ◌<◌, ◌≤◌, List, [], ◌∷◌, ◌++◌, length, take, Option, Some, None, Result, Ok, Err, refl, sym, ap, subst, ◌∙◌, arith, inl, inr, IfOk, cases_lt, lt-ltb, le-ltb, ltb-true, drop_at, take-append-drop}
use Rattle.dw_num.proofs.Words.{length-take, Target, Refusal, Input, AreBytes, Takes, behind, IsLeb, groups, Register, Uleb, leb_len, uleb_of, uleb_at, register_of, register_at, Read, Reads, ◌>>=◌, further}
use Rattle.dw_num.proofs.Words.{Bool, true, false, cond, nat_lt}
use Rattle.std.proofs.lemmas.List.{take_at}

IsLeb-cons : (x : ℕ) (bs : List ℕ) → 128 ≤ x → x < 256 → IsLeb bs → IsLeb (x ∷ bs)
IsLeb-cons x [] big byte h = absurd h
IsLeb-cons x (b ∷ bs) big byte h = (big, byte, h)

pub further_some : (o : Option ℕ) (n : ℕ) → further 1 o ≡ Some n → (m : ℕ) × (o ≡ Some m) × (n ≡ suc m)
further_some None n e = absurd cc
further_some (Some m) n e = let k : 1 + m ≡ n = cc in (m, refl, omega arith)

-- the bytes up to the first without a top bit are a LEB
pub leb_len-front : (bytes : List ℕ) (n : ℕ) → AreBytes bytes → leb_len bytes ≡ Some n → IsLeb (take n bytes) × (n ≤ length bytes)
leb_len-front [] n h e = absurd cc
leb_len-front (x ∷ bs) n h e = elim (cases_lt x 128) [
  | inl small ↦
      let k : Some 1 ≡ Some n = rw (lt-ltb x 128 small) at e in
      let one : 1 ≡ n = cc in
      subst (λ (m : ℕ). IsLeb (take m (x ∷ bs)) × (m ≤ length (x ∷ bs))) one (small, omega arith)
  | inr big ↦
      let k : further 1 (leb_len bs) ≡ Some n = rw (le-ltb x 128 big) at e in
      let m = further_some (leb_len bs) n k in
      let ih = leb_len-front bs m.0 (λ i. h (suc i)) m.1 in
      subst (λ (j : ℕ). IsLeb (take j (x ∷ bs)) × (j ≤ length (x ∷ bs))) (sym m.2) (IsLeb-cons x (take m.0 bs) big (h 0) ih.0, omega (arith, ih.1))
]

-- a LEB is the LEB at the front, whatever follows
pub leb_len-spelled : (b rest : List ℕ) → IsLeb b → leb_len (b ++ rest) ≡ Some (length b)
leb_len-spelled [] rest h = absurd h
leb_len-spelled (x ∷ []) rest h = rw (lt-ltb x 128 h) refl
leb_len-spelled (x ∷ y ∷ b) rest h = rw (le-ltb x 128 h.0, leb_len-spelled (y ∷ b) rest h.2) (ap Some (omega arith))

pub uleb_again : (at : ℕ) (target : Target) (v : ℕ) (b rest : List ℕ) → Uleb v b → uleb_at (record { at = at; bytes = b ++ rest; target = target }) ≡ Ok (v, record { at = at + length b; bytes = rest; target = target })
unfolding uleb_at
uleb_again at target v b rest u =
    let fits : groups b < 2 ^ 64 = rw u.value at u.fits in
    rw (leb_len-spelled b rest u.shape, take_at b rest (length b) refl, drop_at b rest (length b) refl, lt-ltb (groups b) (2 ^ 64) fits, u.value) refl

pub uleb_only : (i : Input) (v : ℕ) (b rest : List ℕ) → Uleb v b → i.bytes ≡ b ++ rest → uleb_at i ≡ Ok (v, record { at = i.at + length b; bytes = rest; target = i.target })
uleb_only i v b rest u e =
    subst (λ (bs : List ℕ). uleb_at (record { at = i.at; bytes = bs; target = i.target }) ≡ Ok (v, record { at = i.at + length b; bytes = rest; target = i.target })) (sym e) (uleb_again i.at i.target v b rest u)

abbrev pub done : {A : Type 0} → A → Result A Refusal
done x = Ok x

pub ok_is : {A : Type 0} (x y : A) → done x ≡ done y → x ≡ y
ok_is x y e = cc

pub cond_ok : {A : Type 0} (b : Bool) (x : Result A Refusal) (r : Refusal) (y : A) → cond b x (Err r) ≡ done y → (b ≡ true) × (x ≡ done y)
cond_ok true x r y e = (refl, e)
cond_ok false x r y e = absurd cc

pub cond_not : {A : Type 0} (b : Bool) (x : Result A Refusal) (r : Refusal) (y : A) → cond b (Err r) x ≡ done y → (b ≡ false) × (x ≡ done y)
cond_not true x r y e = absurd cc
cond_not false x r y e = (refl, e)

pub took : (i : Input) (n : ℕ) → n ≤ length i.bytes → Takes i (take n i.bytes) (behind n i)
took i n len = record { bytes = sym (take-append-drop n i.bytes); at = ap (λ (m : ℕ). i.at + m) (omega (arith, length-take n i.bytes)); target = refl }

found_at : (o : Option ℕ) (i new : Input) (v : ℕ) → AreBytes i.bytes → leb_len i.bytes ≡ o → uleb_of o i ≡ Ok (v, new) → (b : List ℕ) × Uleb v b × Takes i b new
found_at None i new v are e h = absurd cc
found_at (Some n) i new v are e h =
    let front = leb_len-front i.bytes n are e in
    let k = cond_ok (nat_lt (groups (take n i.bytes)) (2 ^ 64)) (done (groups (take n i.bytes), behind n i)) _ (v, new) h in
    subst (λ (p : ℕ × Input). (b : List ℕ) × Uleb p.0 b × Takes i b p.1) (ok_is (groups (take n i.bytes), behind n i) (v, new) k.1)
    (take n i.bytes, record { shape = front.0; value = refl; fits = ltb-true _ _ k.0 }, took i n front.1)

pub uleb_found : (i new : Input) (v : ℕ) → AreBytes i.bytes → uleb_at i ≡ Ok (v, new) → (b : List ℕ) × Uleb v b × Takes i b new
unfolding uleb_at
uleb_found i new v are h = found_at (leb_len i.bytes) i new v are refl h

-- a reader that answers as reading says answers what reading gives
pub only_of : {A : Type 0} (r : Result A Refusal) (old new rest : Input) (read : Read A) (v : A) → Reads (λ x. x) r old read new → read ≡ Ok (v, rest) → r ≡ Ok v
only_of {A} (Ok x) old new rest read v h e = ap (λ (p : A × Input). done p.0) (ok_is (x, new) (v, rest) (sym h ∙ e))
only_of (Err x) old new rest read v h e = let a : read ≡ Err x = h.0 in absurd cc

-- what a reader found is spelled by the bytes that it took
pub found_of : {A : Type 0} (Spells : A → List ℕ → Type 0) (r : Result A Refusal) (old new : Input) (read : Read A) → ((v : A) (rest : Input) → read ≡ Ok (v, rest) → (b : List ℕ) × Spells v b × Takes old b rest) → Reads (λ x. x) r old read new → IfOk r (λ v. (b : List ℕ) × Spells v b × Takes old b new)
found_of Spells (Ok v) old new read law h = law v new h
found_of Spells (Err e) old new read law h = tt

-- ---- registers

pub register_again : (at : ℕ) (target : Target) (r : ℕ) (b rest : List ℕ) → Register r b → register_at (record { at = at; bytes = b ++ rest; target = target }) ≡ Ok (r, record { at = at + length b; bytes = rest; target = target })
unfolding register_at
register_again at target r b rest u = rw (uleb_again at target r b rest u.0, lt-ltb r 65536 u.1) refl

pub register_only : (i : Input) (r : ℕ) (b rest : List ℕ) → Register r b → i.bytes ≡ b ++ rest → register_at i ≡ Ok (r, record { at = i.at + length b; bytes = rest; target = i.target })
register_only i r b rest u e =
    subst (λ (bs : List ℕ). register_at (record { at = i.at; bytes = bs; target = i.target }) ≡ Ok (r, record { at = i.at + length b; bytes = rest; target = i.target })) (sym e) (register_again i.at i.target r b rest u)

pub bind_ok : {A B : Type 0} (r : Result A Refusal) (f : A → Result B Refusal) (y : B) → r >>= f ≡ done y → (x : A) × (r ≡ done x) × (f x ≡ done y)
bind_ok (Ok x) f y e = (x, refl, e)
bind_ok (Err d) f y e = absurd cc

pub register_found : (i new : Input) (r : ℕ) → AreBytes i.bytes → register_at i ≡ Ok (r, new) → (b : List ℕ) × Register r b × Takes i b new
unfolding register_at
register_found i new r h e =
    let p = bind_ok (uleb_at i) (register_of i.at) (r, new) e in
    let q = uleb_found i p.0.1 p.0.0 h p.1 in
    let k = cond_ok (nat_lt p.0.0 65536) (done p.0) _ (r, new) p.2 in
    subst (λ (z : ℕ × Input). (b : List ℕ) × Register z.0 b × Takes i b z.1) (ok_is p.0 (r, new) k.1) (q.0, (q.1, ltb-true _ _ k.0), q.2)
