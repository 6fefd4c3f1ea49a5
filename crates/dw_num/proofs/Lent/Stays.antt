-- What is read ends where the input ends, and a fault has a place in the input or at its end.
use Rattle.dw_num.specs.Front.{take_at}
use Rattle.dw_num.proofs.Words.{◌≡◌, ℕ, ◌+◌, ◌≤◌, Bool, true, false, List, [], ◌∷◌, length, take, Option, Some, None, Ok, Err, refl, ◌∙◌, arith, inl, inr, cond, nat_lt, ◌^◌, ◌==◌, cases_lt}
use Rattle.dw_num.proofs.Words.{lt-ltb, le-ltb, length-drop, Input, behind, fixed_number, groups, signed_groups, byte_count, Read, fixed_at, leb_len, uleb_of, uleb_at, sleb_of, sleb_at}
use Rattle.dw_num.proofs.{Words.{address_at, unit_length_at, fits_signed, register_of, register_at, ◌>>=◌, further, fault, Truncated, if◌then◌else◌}, Lent.LebLaws.{done, further_some}}

-- j begins in i or at its end, and both end at one place
abbrev pub Inside : Input → Input → Type 0
Inside i j = (i.at ≤ j.at) × (j.at + length j.bytes ≡ i.at + length i.bytes)

abbrev pub Stays : {X : Type 0} → Input → Read X → Type 0
Stays i (Ok x) = Inside i x.1
Stays i (Err r) = (i.at ≤ r.at) × (r.at ≤ i.at + length i.bytes)

pub inside_all : (i : Input) → Inside i i
inside_all i = (omega arith, refl)

pub stays_in : {X : Type 0} (i j : Input) (read : Read X) → Inside i j → Stays j read → Stays i read
stays_in i j (Ok x) e h = (omega (arith, e.0, h.0), h.1 ∙ e.1)
stays_in i j (Err r) e h = (omega (arith, e.0, h.0), omega (arith, e.1, h.1))

pub stays-then : {X Y : Type 0} (i : Input) (read : Read X) (next : X × Input → Read Y) → Stays i read → ((x : X × Input) → read ≡ done x → Inside i x.1 → Stays i (next x)) → Stays i (read >>= next)
stays-then i (Ok x) next h k = k x refl h
stays-then i (Err r) next h k = h

pub either_stays : {X : Type 0} (b : Bool) (i : Input) (x y : Read X) → Stays i x → Stays i y → Stays i (cond b x y)
either_stays true i x y h k = h
either_stays false i x y h k = k

behind_stays : (n : ℕ) (i : Input) → n ≤ length i.bytes → Inside i (behind n i)
behind_stays n i h = (omega arith, omega (arith, length-drop n i.bytes))

-- so many bytes are there, or the read is refused at their place
there_stays : {X : Type 0} (n : ℕ) (i : Input) (read : Read X) → (n ≤ length i.bytes → Stays i read) → Stays i (if nat_lt (length i.bytes) n then fault Truncated i.at else read)
there_stays n i read h = elim (cases_lt (length i.bytes) n) [
  | inl short ↦ rw (lt-ltb (length i.bytes) n short) (omega arith, omega arith)
  | inr long ↦ rw (le-ltb (length i.bytes) n long) (h long)
]

pub fixed_stays : (n : ℕ) (i : Input) → Stays i (fixed_at n i)
unfolding fixed_at
fixed_stays n i = there_stays n i _ (behind_stays n i)

pub address_stays : (i : Input) → Stays i (address_at i)
unfolding address_at
address_stays i = fixed_stays (byte_count i.target.size) i

pub take_stays : (n : ℕ) (i : Input) → Stays i (take_at n i)
unfolding take_at
take_stays n i = there_stays n i _ (behind_stays n i)

leb_within : (bytes : List ℕ) (n : ℕ) → leb_len bytes ≡ Some n → n ≤ length bytes
leb_within [] n e = absurd cc
leb_within (x ∷ bytes) n e = elim (cases_lt x 128) [
  | inl small ↦ let k : Some 1 ≡ Some n = rw (lt-ltb x 128 small) at e in let one : 1 ≡ n = cc in omega arith
  | inr big ↦
      let k : further 1 (leb_len bytes) ≡ Some n = rw (le-ltb x 128 big) at e in
      let m = further_some (leb_len bytes) n k in
      omega (arith, leb_within bytes m.0 m.1, m.2)
]

pub uleb_stays : (i : Input) → Stays i (uleb_at i)
unfolding uleb_at
uleb_stays i = of (leb_len i.bytes) refl
  where
    of : (o : Option ℕ) → leb_len i.bytes ≡ o → Stays i (uleb_of o i)
    of None e = (omega arith, omega arith)
    of (Some n) e = either_stays (nat_lt (groups (take n i.bytes)) (2 ^ 64)) i _ _ (behind_stays n i (leb_within i.bytes n e)) (omega arith, omega arith)

pub sleb_stays : (i : Input) → Stays i (sleb_at i)
unfolding sleb_at
sleb_stays i = of (leb_len i.bytes) refl
  where
    of : (o : Option ℕ) → leb_len i.bytes ≡ o → Stays i (sleb_of o i)
    of None e = (omega arith, omega arith)
    of (Some n) e = either_stays (fits_signed (signed_groups (take n i.bytes))) i _ _ (behind_stays n i (leb_within i.bytes n e)) (omega arith, omega arith)

pub register_stays : (i : Input) → Stays i (register_at i)
unfolding register_at
register_stays i = stays-then i (uleb_at i) (register_of i.at) (uleb_stays i) (λ x e inside. either_stays (nat_lt x.0 65536) i _ _ inside (omega arith, omega arith))

pub unit_length_stays : (i : Input) → Stays i (unit_length_at i)
unfolding unit_length_at
unit_length_stays i = there_stays 4 i _ (λ long. either_stays (nat_lt (fixed_number i.target.order 4 i.bytes) 0xfffffff0) i _ _ (behind_stays 4 i long)
    (either_stays (fixed_number i.target.order 4 i.bytes == 0xffffffff) i _ _ (there_stays 12 i _ (behind_stays 12 i)) (omega arith, omega arith)))
