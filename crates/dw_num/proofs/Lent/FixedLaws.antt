-- Numbers of a fixed width, and lengths, read as they are spelled.
use Rattle.std.proofs.lemmas.Bool.Decides.{eqb_tells}
use Rattle.dw_num.specs.declared.target.{Form.Form, Form.TheVariants.{Dwarf32, Dwarf64}, Size.Size, Size.TheVariants.{Four, Eight}, UnitLength.UnitLength}
use Rattle.dw_num.proofs.Words.{◌≡◌, ℕ, ◌+◌, ◌^◌, ◌<◌, ◌≤◌, List, [], ◌∷◌, ◌++◌, length, take, drop, Ok, refl, sym, ap, subst, ◌∙◌, append_assoc, arith, inl, inr, get_or, cases_lt, lt-ltb, le-ltb, ltb-false, nat_lt, take-add, drop_at}
use Rattle.dw_num.proofs.Words.{length-take, length-drop, length-append, get_or-take, get_or-drop, get_or_past, get_or-append-add, le_bytes_2, be_bytes_2, le_bytes_4, be_bytes_4, le_bytes_8, be_bytes_8, big_number-reads_back}
use Rattle.dw_num.proofs.Words.{little_number-reads_back, length-bytes_high_first, length-bytes_low_first, big_from-lt, little_from-lt, Target, Order, Little, Big, byte_count, ReservedLength, Input, AreBytes, Takes, behind, Address}
use Rattle.dw_num.proofs.{Words.{Fixed, IsWidth, fixed_bytes, fixed_number, length_bytes, LengthFits, SpellsLength, fault, fixed_at, address_at, length_of, long_length_at, unit_length_at}, Lent.LebLaws.{cond_not, done, ok_is, took}}

take-bytes : (n : ℕ) (bytes : List ℕ) → AreBytes bytes → AreBytes (take n bytes)
take-bytes n bytes h i =
    elim (cases_lt i n) [
      | inl lt ↦ rw (get_or-take n bytes i 0 lt) (h i)
      | inr le ↦ rw (get_or_past (take n bytes) i 0 (omega (arith, length-take n bytes))) (omega arith)
    ]

drop-bytes : (n : ℕ) (bytes : List ℕ) → AreBytes bytes → AreBytes (drop n bytes)
drop-bytes n bytes h i = rw get_or-drop (h (n + i))

-- the bytes of the number that bytes spell
pub fixed_back_4 : (order : Order) (bytes : List ℕ) → 4 ≤ length bytes → AreBytes bytes → fixed_bytes order 4 (fixed_number order 4 bytes) ≡ take 4 bytes
fixed_back_4 Little bytes len h = le_bytes_4 (take 4 bytes) _ (omega (arith, length-take 4 bytes)) (take-bytes 4 bytes h)
    (omega (arith, get_or-take 4 bytes 0 0 (omega arith), get_or-take 4 bytes 1 0 (omega arith), get_or-take 4 bytes 2 0 (omega arith), get_or-take 4 bytes 3 0 (omega arith)))
fixed_back_4 Big bytes len h = be_bytes_4 (take 4 bytes) _ (omega (arith, length-take 4 bytes)) (take-bytes 4 bytes h)
    (omega (arith, get_or-take 4 bytes 0 0 (omega arith), get_or-take 4 bytes 1 0 (omega arith), get_or-take 4 bytes 2 0 (omega arith), get_or-take 4 bytes 3 0 (omega arith)))

pub fixed_back_8 : (order : Order) (bytes : List ℕ) → 8 ≤ length bytes → AreBytes bytes → fixed_bytes order 8 (fixed_number order 8 bytes) ≡ take 8 bytes
fixed_back_8 Little bytes len h = le_bytes_8 (take 8 bytes) _ (omega (arith, length-take 8 bytes)) (take-bytes 8 bytes h)
    (omega (arith, get_or-take 8 bytes 0 0 (omega arith), get_or-take 8 bytes 1 0 (omega arith), get_or-take 8 bytes 2 0 (omega arith), get_or-take 8 bytes 3 0 (omega arith), get_or-take 8 bytes 4 0 (omega arith), get_or-take 8 bytes 5 0 (omega arith), get_or-take 8 bytes 6 0 (omega arith), get_or-take 8 bytes 7 0 (omega arith)))
fixed_back_8 Big bytes len h = be_bytes_8 (take 8 bytes) _ (omega (arith, length-take 8 bytes)) (take-bytes 8 bytes h)
    (omega (arith, get_or-take 8 bytes 0 0 (omega arith), get_or-take 8 bytes 1 0 (omega arith), get_or-take 8 bytes 2 0 (omega arith), get_or-take 8 bytes 3 0 (omega arith), get_or-take 8 bytes 4 0 (omega arith), get_or-take 8 bytes 5 0 (omega arith), get_or-take 8 bytes 6 0 (omega arith), get_or-take 8 bytes 7 0 (omega arith)))

pub fixed_below : (order : Order) (n : ℕ) (bytes : List ℕ) → AreBytes bytes → fixed_number order n bytes < 256 ^ n
fixed_below Little n bytes h = little_from-lt 0 n bytes h
fixed_below Big n bytes h = big_from-lt 0 n bytes h

pub fixed_again : (order : Order) (n v : ℕ) (rest : List ℕ) → v < 256 ^ n → fixed_number order n (fixed_bytes order n v ++ rest) ≡ v
fixed_again Little n v rest fits = little_number-reads_back n v rest fits
fixed_again Big n v rest fits = big_number-reads_back n v rest fits

pub length-fixed : (order : Order) (n v : ℕ) → length (fixed_bytes order n v) ≡ n
length-fixed Little n v = length-bytes_low_first 0 n v
length-fixed Big n v = length-bytes_high_first n v

-- ---- lengths

long_found_at : (i new : Input) (u : UnitLength) → fixed_number i.target.order 4 i.bytes ≡ 0xffffffff → AreBytes i.bytes → long_length_at i ≡ Ok (u, new) → (b : List ℕ) × SpellsLength i.target.order u b × Takes i b new
long_found_at i new u ones h e =
    let k = cond_not (nat_lt (length i.bytes) 12) _ _ (u, new) e in
    let long = ltb-false (length i.bytes) 12 k.0 in
    let n = fixed_number i.target.order 8 (drop 4 i.bytes) in
    let front : fixed_bytes i.target.order 4 0xffffffff ≡ take 4 i.bytes = rw ones at (fixed_back_4 i.target.order i.bytes (omega arith) h) in
    let back : fixed_bytes i.target.order 8 (fixed_number i.target.order 8 (drop 4 i.bytes)) ≡ take 8 (drop 4 i.bytes) = fixed_back_8 i.target.order (drop 4 i.bytes) (omega (arith, length-drop 4 i.bytes)) (drop-bytes 4 i.bytes h) in
    subst (λ (p : UnitLength × Input). (b : List ℕ) × SpellsLength i.target.order p.0 b × Takes i b p.1) (ok_is (record { form = Dwarf64; length = n }, behind 12 i) (u, new) k.1)
    (take 12 i.bytes, record { bytes = rw (front, back) (take-add 4 8 i.bytes); fits = fixed_below i.target.order 8 (drop 4 i.bytes) (drop-bytes 4 i.bytes h) }, took i 12 long)

found_at : (i new : Input) (u : UnitLength) (n : ℕ) → n ≡ fixed_number i.target.order 4 i.bytes → 4 ≤ length i.bytes → AreBytes i.bytes → length_of n i ≡ Ok (u, new) → (b : List ℕ) × SpellsLength i.target.order u b × Takes i b new
found_at i new u n n-is len h e = elim (cases_lt n 0xfffffff0) [
  | inl small ↦
      let k : done (record { form = Dwarf32; length = n }, behind 4 i) ≡ done (u, new) = rw (lt-ltb n 0xfffffff0 small) at e in
      subst (λ (p : UnitLength × Input). (b : List ℕ) × SpellsLength i.target.order p.0 b × Takes i b p.1) (ok_is (record { form = Dwarf32; length = n }, behind 4 i) (u, new) k)
      (take 4 i.bytes, record { bytes = rw n-is (sym (fixed_back_4 i.target.order i.bytes len h)); fits = small }, took i 4 len)
  | inr big ↦ elim (eqb_tells n 0xffffffff) [
    | inl is ↦ long_found_at i new u (sym n-is ∙ is.1) h (rw (le-ltb n 0xfffffff0 big, is.0) at e)
    | inr not ↦ let k : fault {A = UnitLength × Input} ReservedLength i.at ≡ done (u, new) = rw (le-ltb n 0xfffffff0 big, not.0) at e in absurd cc
  ]
]

pub unit_length_found : (i new : Input) (u : UnitLength) → AreBytes i.bytes → unit_length_at i ≡ Ok (u, new) → (b : List ℕ) × SpellsLength i.target.order u b × Takes i b new
unfolding unit_length_at
unit_length_found i new u h e =
    let k = cond_not (nat_lt (length i.bytes) 4) _ _ (u, new) e in
    found_at i new u (fixed_number i.target.order 4 i.bytes) refl (ltb-false (length i.bytes) 4 k.0) h k.1

length_again : (at : ℕ) (target : Target) (form : Form) (n : ℕ) (rest : List ℕ) → LengthFits form n → unit_length_at (record { at = at; bytes = length_bytes target.order form n ++ rest; target = target }) ≡ Ok (record { form = form; length = n }, record { at = at + length (length_bytes target.order form n); bytes = rest; target = target })
unfolding unit_length_at
length_again at target Dwarf32 n rest fits =
    let front = fixed_bytes target.order 4 n in
    let len : length front ≡ 4 = length-fixed target.order 4 n in
    let long : 4 ≤ length (front ++ rest) = omega (arith, length-append front rest) in
    rw (le-ltb (length (front ++ rest)) 4 long, fixed_again target.order 4 n rest (omega arith), lt-ltb n 0xfffffff0 fits, drop_at front rest 4 len, len) refl
length_again at target Dwarf64 n rest fits =
    let order = target.order in
    let front = fixed_bytes order 4 0xffffffff in
    let second = fixed_bytes order 8 n in
    let len4 : length front ≡ 4 = length-fixed order 4 0xffffffff in
    let len8 : length second ≡ 8 = length-fixed order 8 n in
    let len12 : length (front ++ second) ≡ 12 = omega (arith, length-append front second) in
    let long : 12 ≤ length ((front ++ second) ++ rest) = omega (arith, length-append (front ++ second) rest) in
    let first : fixed_number order 4 ((front ++ second) ++ rest) ≡ 0xffffffff = rw append_assoc (fixed_again order 4 0xffffffff (second ++ rest) (omega arith)) in
    let then : drop 4 ((front ++ second) ++ rest) ≡ second ++ rest = rw append_assoc (drop_at front (second ++ rest) 4 len4) in
    rw (le-ltb (length ((front ++ second) ++ rest)) 4 (omega arith), first, le-ltb (length ((front ++ second) ++ rest)) 12 long, then, fixed_again order 8 n rest (omega arith), drop_at (front ++ second) rest 12 len12, len12) refl

pub unit_length_only : (i : Input) (u : UnitLength) (b rest : List ℕ) → SpellsLength i.target.order u b → i.bytes ≡ b ++ rest → unit_length_at i ≡ Ok (u, record { at = i.at + length b; bytes = rest; target = i.target })
unit_length_only i u b rest s e =
    subst (λ (bs : List ℕ). unit_length_at (record { at = i.at; bytes = bs; target = i.target }) ≡ Ok (u, record { at = i.at + length b; bytes = rest; target = i.target })) (sym e)
    (subst (λ (c : List ℕ). unit_length_at (record { at = i.at; bytes = c ++ rest; target = i.target }) ≡ Ok (u, record { at = i.at + length c; bytes = rest; target = i.target })) (sym s.bytes)
    (length_again i.at i.target u.form u.length rest s.fits))

-- ---- fields of a fixed width

fixed_back_1 : (order : Order) (bytes : List ℕ) → 1 ≤ length bytes → AreBytes bytes → fixed_bytes order 1 (fixed_number order 1 bytes) ≡ take 1 bytes
fixed_back_1 order [] len h = absurd (omega arith)
fixed_back_1 Little (b ∷ bytes) len h = let small = h 0 in ap (λ (x : ℕ). x ∷ []) (omega arith)
fixed_back_1 Big (b ∷ bytes) len h = let small = h 0 in ap (λ (x : ℕ). x ∷ []) (omega arith)

fixed_back_2 : (order : Order) (bytes : List ℕ) → 2 ≤ length bytes → AreBytes bytes → fixed_bytes order 2 (fixed_number order 2 bytes) ≡ take 2 bytes
fixed_back_2 Little bytes len h = le_bytes_2 (take 2 bytes) _ (omega (arith, length-take 2 bytes)) (take-bytes 2 bytes h)
    (omega (arith, get_or-take 2 bytes 0 0 (omega arith), get_or-take 2 bytes 1 0 (omega arith)))
fixed_back_2 Big bytes len h = be_bytes_2 (take 2 bytes) _ (omega (arith, length-take 2 bytes)) (take-bytes 2 bytes h)
    (omega (arith, get_or-take 2 bytes 0 0 (omega arith), get_or-take 2 bytes 1 0 (omega arith)))

-- the bytes of the number that bytes spell
pub fixed_back : (order : Order) (n : ℕ) (bytes : List ℕ) → IsWidth n → n ≤ length bytes → AreBytes bytes → fixed_bytes order n (fixed_number order n bytes) ≡ take n bytes
fixed_back order n bytes (inl is) len h = subst (λ (m : ℕ). fixed_bytes order m (fixed_number order m bytes) ≡ take m bytes) (sym is) (fixed_back_1 order bytes (omega arith) h)
fixed_back order n bytes (inr (inl is)) len h = subst (λ (m : ℕ). fixed_bytes order m (fixed_number order m bytes) ≡ take m bytes) (sym is) (fixed_back_2 order bytes (omega arith) h)
fixed_back order n bytes (inr (inr (inl is))) len h = subst (λ (m : ℕ). fixed_bytes order m (fixed_number order m bytes) ≡ take m bytes) (sym is) (fixed_back_4 order bytes (omega arith) h)
fixed_back order n bytes (inr (inr (inr is))) len h = subst (λ (m : ℕ). fixed_bytes order m (fixed_number order m bytes) ≡ take m bytes) (sym is) (fixed_back_8 order bytes (omega arith) h)

-- the first n bytes spell their number
pub is_fixed : (order : Order) (n : ℕ) (bytes : List ℕ) → IsWidth n → n ≤ length bytes → AreBytes bytes → Fixed order n (fixed_number order n bytes) (take n bytes)
is_fixed order n bytes width len h = record { bytes = sym (fixed_back order n bytes width len h); fits = fixed_below order n bytes h }

pub fixed_found : (n : ℕ) (i new : Input) (v : ℕ) → IsWidth n → AreBytes i.bytes → fixed_at n i ≡ Ok (v, new) → (b : List ℕ) × Fixed i.target.order n v b × Takes i b new
unfolding fixed_at
fixed_found n i new v w h e =
    let k = cond_not (nat_lt (length i.bytes) n) _ _ (v, new) e in
    let long = ltb-false (length i.bytes) n k.0 in
    subst (λ (p : ℕ × Input). (b : List ℕ) × Fixed i.target.order n p.0 b × Takes i b p.1) (ok_is (fixed_number i.target.order n i.bytes, behind n i) (v, new) k.1)
    (take n i.bytes, is_fixed i.target.order n i.bytes w long h, took i n long)

pub fixed_at_again : (n at : ℕ) (target : Target) (v : ℕ) (b rest : List ℕ) → Fixed target.order n v b → fixed_at n (record { at = at; bytes = b ++ rest; target = target }) ≡ Ok (v, record { at = at + length b; bytes = rest; target = target })
unfolding fixed_at
fixed_at_again n at target v b rest f =
    let len : length b ≡ n = ap length f.bytes ∙ length-fixed target.order n v in
    let back : fixed_number target.order n (b ++ rest) ≡ v = rw (f.bytes) (fixed_again target.order n v rest f.fits) in
    rw (le-ltb (length (b ++ rest)) n (omega (arith, length-append b rest)), back, drop_at b rest n len, len) refl

pub fixed_only : (n : ℕ) (i : Input) (v : ℕ) (b rest : List ℕ) → Fixed i.target.order n v b → i.bytes ≡ b ++ rest → fixed_at n i ≡ Ok (v, record { at = i.at + length b; bytes = rest; target = i.target })
fixed_only n i v b rest f e =
    subst (λ (bs : List ℕ). fixed_at n (record { at = i.at; bytes = bs; target = i.target }) ≡ Ok (v, record { at = i.at + length b; bytes = rest; target = i.target })) (sym e) (fixed_at_again n i.at i.target v b rest f)

-- what is left is bytes
pub taken_bytes : (i new : Input) (b : List ℕ) → Takes i b new → AreBytes i.bytes → AreBytes new.bytes
taken_bytes i new b t h k = let e : get_or i.bytes (length b + k) 0 ≡ get_or new.bytes k 0 = ap (λ (l : List ℕ). get_or l (length b + k) 0) t.bytes ∙ get_or-append-add b new.bytes k 0 in omega (arith, h (length b + k))

-- an address has one of the widths
pub address_is_width : (size : Size) → IsWidth (byte_count size)
address_is_width Four = inr (inr (inl refl))
address_is_width Eight = inr (inr (inr refl))

pub address_found : (i new : Input) (v : ℕ) → AreBytes i.bytes → address_at i ≡ Ok (v, new) → (b : List ℕ) × Address i.target v b × Takes i b new
unfolding address_at
address_found i new v h e = fixed_found (byte_count i.target.size) i new v (address_is_width i.target.size) h e

pub address_only : (i : Input) (v : ℕ) (b rest : List ℕ) → Address i.target v b → i.bytes ≡ b ++ rest → address_at i ≡ Ok (v, record { at = i.at + length b; bytes = rest; target = i.target })
unfolding address_at
address_only i v b rest f e = fixed_only (byte_count i.target.size) i v b rest f e

-- ---- single bytes

pub one_byte : (order : Order) (bytes : List ℕ) → fixed_number order 1 bytes ≡ get_or bytes 0 0
one_byte Little bytes = omega arith
one_byte Big bytes = omega arith

pub front_byte : (bytes : List ℕ) → 1 ≤ length bytes → bytes ≡ (get_or bytes 0 0 ∷ []) ++ drop 1 bytes
front_byte [] h = absurd (omega arith)
front_byte (b ∷ bytes) h = refl

pub byte_at_again : (at : ℕ) (target : Target) (v : ℕ) (rest : List ℕ) → fixed_at 1 (record { at = at; bytes = v ∷ rest; target = target }) ≡ Ok (v, record { at = at + 1; bytes = rest; target = target })
unfolding fixed_at
byte_at_again at target v rest = rw (le-ltb (length (v ∷ rest)) 1 (omega arith), one_byte target.order (v ∷ rest)) refl

pub byte_found : (i new : Input) (v : ℕ) → fixed_at 1 i ≡ Ok (v, new) → Takes i (v ∷ []) new
unfolding fixed_at
byte_found i new v e =
    let k = cond_not (nat_lt (length i.bytes) 1) _ _ (v, new) e in
    subst (λ (p : ℕ × Input). Takes i (p.0 ∷ []) p.1) (ok_is (fixed_number i.target.order 1 i.bytes, behind 1 i) (v, new) k.1)
    (record { bytes = rw (one_byte i.target.order i.bytes) (front_byte i.bytes (ltb-false (length i.bytes) 1 k.0)); at = refl; target = refl })
