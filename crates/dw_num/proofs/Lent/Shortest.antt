-- The shortest LEB128 spelling of a number, and that no other is as short.
use Rattle.dw_num.proofs.Words.{◌≡◌, ℕ, zero, suc, ◌+◌, if◌then◌else◌, nat_lt, ◌*◌, ◌/◌, ◌%◌, ◌^◌, ◌<◌, ◌≤◌, Bool, true, false, leb, List, [], ◌∷◌, ◌++◌, length, append-nil, append_assoc, refl, sym, ap}
use Rattle.dw_num.proofs.Words.{◌∙◌, inl, inr, lit<, arith, ℤ, pos, negsuc, FitsSigned, w64, pow-succ', ints, cases_lt, lt-ltb, le-ltb, leb-true, leb-false, le-leb, lt-leb, IsLeb, groups, is_negative, Uleb}
use Rattle.dw_num.proofs.{Words.{Sleb, leb_of, turned_leb, shortest_uleb, shortest_sleb, turned, PutsUleb, PutsSleb, turned_from, as_signed}, LebLemmas.turned_from-false, Lent.Turned.signed_groups-turned}

-- ---- sums from the first byte on

turned_from-suc : (t : Bool) (k : ℕ) (bytes : List ℕ) → turned_from t (suc k) bytes ≡ 128 * turned_from t k bytes
turned_from-suc t k [] = refl
turned_from-suc t k (b ∷ bytes) =
    let p : 128 ^ suc k ≡ 128 * 128 ^ k = pow-succ' 128 k in
    let q : turned t b * 128 ^ suc k ≡ 128 * (turned t b * 128 ^ k) = turn (turned t b) (128 ^ k) (128 ^ suc k) p in
    omega (arith, turned_from-suc t (suc k) bytes, q)
  where
    turn : (x p q : ℕ) → q ≡ 128 * p → x * q ≡ 128 * (x * p)
    turn x p q e = rw e (omega arith)

turned-cons : (t : Bool) (b : ℕ) (bytes : List ℕ) → turned_from t 0 (b ∷ bytes) ≡ turned t b + 128 * turned_from t 0 bytes
turned-cons t b bytes = omega (arith, turned_from-suc t 0 bytes)

pub groups-cons : (b : ℕ) (bytes : List ℕ) → groups (b ∷ bytes) ≡ b % 128 + 128 * groups bytes
groups-cons b bytes = omega (arith, turned-cons false b bytes, turned_from-false 0 (b ∷ bytes), turned_from-false 0 bytes)

-- a list of k bytes makes less than 128 ^ k
pub groups_below : (bytes : List ℕ) → groups bytes < 128 ^ length bytes
groups_below [] = lit< tt
groups_below (b ∷ bytes) = rw (pow-succ' 128 (length bytes), groups-cons b bytes) (let h = groups_below bytes in let m : b % 128 < 128 = omega arith in omega arith)

-- ---- unsigned numbers

abbrev Spells : ℕ → List ℕ → Type 0
Spells v bytes = IsLeb bytes × (groups bytes ≡ v)

one : (v : ℕ) → v < 128 → Spells v (v ∷ [])
one v lt = (lt, rw (groups-cons v []) (omega arith))

more : (v : ℕ) (bytes : List ℕ) → Spells (v / 128) bytes → Spells v ((128 + v % 128) ∷ bytes)
more v [] h = absurd h.0
more v (c ∷ bytes) h = ((omega arith, omega arith, h.0), rw (groups-cons (128 + v % 128) (c ∷ bytes), h.1) (omega arith))

pub leb_spells : (n v : ℕ) → v < 128 ^ suc n → Spells v (leb_of n v)
leb_spells zero v lt = one v lt
leb_spells (suc n) v lt =
    elim (cases_lt v 128) [
      | inl small ↦ rw (lt-ltb v 128 small) (one v small)
      | inr large ↦ rw (le-ltb v 128 large) (more v (leb_of n (v / 128)) (leb_spells n (v / 128) (let p : 128 ^ suc (suc n) ≡ 128 * 128 ^ suc n = pow-succ' 128 (suc n) in omega arith)))
    ]

-- a number below 128 ^ (k + 1) needs at most k + 1 bytes
leb_most : (n v k : ℕ) → v < 128 ^ suc k → length (leb_of n v) ≤ suc k
leb_most zero v k lt = omega arith
leb_most (suc n) v zero lt = rw (lt-ltb v 128 (omega arith)) (omega arith)
leb_most (suc n) v (suc k) lt =
    let p : 128 ^ suc (suc k) ≡ 128 * 128 ^ suc k = pow-succ' 128 (suc k) in
    elim (cases_lt v 128) [
      | inl small ↦ rw (lt-ltb v 128 small) (omega arith)
      | inr large ↦ rw (le-ltb v 128 large) (let h = leb_most n (v / 128) k (omega arith) in omega arith)
    ]

-- every spelling is at least as long
leb_shortest : (n v : ℕ) (other : List ℕ) → IsLeb other → v ≡ groups other → length (leb_of n v) ≤ length other
leb_shortest n v [] shape value = absurd shape
leb_shortest n v (b ∷ bytes) shape value = leb_most n v (length bytes) (rw value (groups_below (b ∷ bytes)))

-- room for one group more changes nothing
leb_enough : (n v : ℕ) → v < 128 ^ suc n → leb_of (suc n) v ≡ leb_of n v
leb_enough zero v lt = rw (lt-ltb v 128 (omega arith)) refl
leb_enough (suc n) v lt =
    let p : 128 ^ suc (suc n) ≡ 128 * 128 ^ suc n = pow-succ' 128 (suc n) in
    ap (λ (l : List ℕ). if nat_lt v 128 then v ∷ [] else (128 + v % 128) ∷ l) (leb_enough n (v / 128) (omega arith))

-- ---- signed numbers

turned_below : (t : Bool) (b : ℕ) → turned t b < 128
turned_below true b = omega arith
turned_below false b = omega arith

turned_twice : (t : Bool) (m : ℕ) → turned t (turned t m) ≡ m % 128
turned_twice true m = omega arith
turned_twice false m = omega arith

turned_again : (t : Bool) (m : ℕ) → turned t (128 + turned t m) ≡ m % 128
turned_again true m = omega arith
turned_again false m = omega arith

turned_sign : (t : Bool) (m : ℕ) → m < 64 → t ≡ leb 64 (turned t m % 128)
turned_sign true m lt = sym (le-leb 64 _ (omega arith))
turned_sign false m lt = sym (lt-leb 64 _ (omega arith))

-- a LEB with this sign bit and this sum of turned groups
pub record SpellsTurned (t : Bool) (m : ℕ) (bytes : List ℕ) : Type 0 where
  pub shape : IsLeb bytes
  pub sign : t ≡ is_negative bytes
  pub sum : turned_from t 0 bytes ≡ m

one_turned : (t : Bool) (m : ℕ) → m < 64 → SpellsTurned t m (turned t m ∷ [])
one_turned t m lt = record {
  shape = turned_below t m;
  sign = turned_sign t m lt;
  sum = rw (turned-cons t (turned t m) [], turned_twice t m) (omega arith);
}

more_turned : (t : Bool) (m : ℕ) (bytes : List ℕ) → SpellsTurned t (m / 128) bytes → SpellsTurned t m ((128 + turned t m) ∷ bytes)
more_turned t m [] h = absurd h.shape
more_turned t m (c ∷ bytes) h = record {
  shape = (omega arith, omega (arith, turned_below t m), h.shape);
  sign = h.sign;
  sum = rw (turned-cons t (128 + turned t m) (c ∷ bytes), turned_again t m, h.sum) (omega arith);
}

pub turned_spells : (t : Bool) (n m : ℕ) → m < 64 * 128 ^ n → SpellsTurned t m (turned_leb t n m)
turned_spells t zero m lt = one_turned t m (omega arith)
turned_spells t (suc n) m lt =
    elim (cases_lt m 64) [
      | inl small ↦ rw (lt-ltb m 64 small) (one_turned t m small)
      | inr large ↦ rw (le-ltb m 64 large) (more_turned t m (turned_leb t n (m / 128)) (turned_spells t n (m / 128) (let p : 128 ^ suc n ≡ 128 * 128 ^ n = pow-succ' 128 n in omega arith)))
    ]

-- the turned groups of k + 1 bytes make less than 64 * 128 ^ k, if they are turned as the sign says
pub turned_within : (t : Bool) (bytes : List ℕ) (k : ℕ) → length bytes ≡ suc k → t ≡ is_negative bytes → turned_from t 0 bytes < 64 * 128 ^ k
turned_within t [] k l e = absurd (omega arith)
turned_within t (b ∷ []) zero l e = rw (turned-cons t b []) (last t e)
  where
    last : (t : Bool) → t ≡ leb 64 (b % 128) → turned t b + 128 * 0 < 64 * 128 ^ 0
    last true e = let h : 64 ≤ b % 128 = leb-true 64 (b % 128) (sym e) in omega arith
    last false e = let h : b % 128 < 64 = leb-false 64 (b % 128) (sym e) in omega arith
turned_within t (b ∷ []) (suc k) l e = absurd (omega arith)
turned_within t (b ∷ c ∷ bytes) zero l e = absurd (omega arith)
turned_within t (b ∷ c ∷ bytes) (suc k) l e = rw (turned-cons t b (c ∷ bytes))
    (let h = turned_within t (c ∷ bytes) k (omega arith) e in let p : 128 ^ suc k ≡ 128 * 128 ^ k = pow-succ' 128 k in let m = turned_below t b in omega arith)

-- a signed number has as many groups as twice its magnitude, turned over or not
turned_length : (t : Bool) (n k m : ℕ) → k / 2 ≡ m → length (leb_of n k) ≡ length (turned_leb t n m)
turned_length t zero k m e = refl
turned_length t (suc n) k m e = elim (cases_lt m 64) [
  | inl small ↦ rw (lt-ltb m 64 small, lt-ltb k 128 (omega arith)) refl
  | inr large ↦ rw (le-ltb m 64 large, le-ltb k 128 (omega arith)) (ap suc (turned_length t n (k / 128) (m / 128) (omega arith)))
]

turned_most : (t : Bool) (n m k : ℕ) → m < 64 * 128 ^ k → length (turned_leb t n m) ≤ suc k
turned_most t n m k lt =
    let p : 128 ^ suc k ≡ 128 * 128 ^ k = pow-succ' 128 k in
    let same = turned_length t n (2 * m) m (omega arith) in
    let most = leb_most n (2 * m) k (omega arith) in
    omega arith

turned_shortest : (t : Bool) (n m : ℕ) (other : List ℕ) → SpellsTurned t m other → length (turned_leb t n m) ≤ length other
turned_shortest t n m [] s = absurd s.shape
turned_shortest t n m (b ∷ bytes) s = turned_most t n m (length bytes) (let h = turned_within t (b ∷ bytes) (length bytes) refl s.sign in omega (arith, h, s.sum))

turned_enough : (t : Bool) (n m : ℕ) → m < 64 * 128 ^ n → turned_leb t (suc n) m ≡ turned_leb t n m
turned_enough t zero m lt = rw (lt-ltb m 64 (omega arith)) refl
turned_enough t (suc n) m lt =
    let p : 128 ^ suc n ≡ 128 * 128 ^ n = pow-succ' 128 n in
    ap (λ (l : List ℕ). if nat_lt m 64 then turned t m ∷ [] else (128 + turned t m) ∷ l) (turned_enough t n (m / 128) (omega arith))

turned_byte : (t : Bool) (x y : ℕ) → turned t x ≡ turned t y → x % 128 ≡ y % 128
turned_byte true x y e = omega arith
turned_byte false x y e = e

-- two LEBs of one length and one sum of turned groups are one
turned_same : (t : Bool) (a b : List ℕ) → IsLeb a → IsLeb b → length a ≡ length b → turned_from t 0 a ≡ turned_from t 0 b → a ≡ b
turned_same t [] b ha hb l e = absurd ha
turned_same t (x ∷ xs) [] ha hb l e = absurd hb
turned_same t (x ∷ []) (y ∷ []) ha hb l e =
    let f = rw (turned-cons t x [], turned-cons t y []) at e in
    let g = turned_byte t x y (omega arith) in ap (λ (n : ℕ). n ∷ []) (omega arith)
turned_same t (x ∷ []) (y ∷ z ∷ ys) ha hb l e = absurd (omega arith)
turned_same t (x ∷ w ∷ xs) (y ∷ []) ha hb l e = absurd (omega arith)
turned_same t (x ∷ w ∷ xs) (y ∷ z ∷ ys) ha hb l e =
    let f = rw (turned-cons t x (w ∷ xs), turned-cons t y (z ∷ ys)) at e in
    let bx = turned_below t x in let by = turned_below t y in
    let g = turned_byte t x y (omega arith) in
    let head : x ≡ y = omega arith in
    let tail = turned_same t (w ∷ xs) (z ∷ ys) ha.2 hb.2 (omega arith) (omega arith) in rw (head, tail) refl

leb_same : (a b : List ℕ) → IsLeb a → IsLeb b → length a ≡ length b → groups a ≡ groups b → a ≡ b
leb_same a b ha hb l e = turned_same false a b ha hb l (turned_from-false 0 a ∙ e ∙ sym (turned_from-false 0 b))

-- the turned number of a spelling
turned_of : (t : Bool) (m : ℕ) (b : List ℕ) → Sleb (as_signed t m) b → SpellsTurned t m b
turned_of t m b s = by_sign t (is_negative b) refl (s.value ∙ signed_groups-turned b (is_negative b) refl)
  where
    by_sign : (t u : Bool) → u ≡ is_negative b → as_signed t m ≡ as_signed u (turned_from u 0 b) → SpellsTurned t m b
    by_sign true true e f = record { shape = s.shape; sign = e; sum = let g : negsuc m ≡ negsuc (turned_from true 0 b) = f in cc }
    by_sign true false e f = absurd (let g : negsuc m ≡ pos (turned_from false 0 b) = f in cc)
    by_sign false true e f = absurd (let g : pos m ≡ negsuc (turned_from true 0 b) = f in cc)
    by_sign false false e f = record { shape = s.shape; sign = e; sum = let g : pos m ≡ pos (turned_from false 0 b) = f in cc }

pub as_signed-fits : (t : Bool) (m : ℕ) → m < 2 ^ 63 → FitsSigned w64 (as_signed t m)
as_signed-fits true m h = omega (arith, ints)
as_signed-fits false m h = omega (arith, ints)

of_turned : (t : Bool) (m : ℕ) (b : List ℕ) → m < 2 ^ 63 → SpellsTurned t m b → Sleb (as_signed t m) b
of_turned t m b h s = record {
  shape = s.shape;
  value = sym (signed_groups-turned b t s.sign ∙ ap (as_signed t) s.sum);
  fits = as_signed-fits t m h;
}

-- ---- the shortest spellings

pub shortest_uleb-spells : (v : ℕ) → v < 2 ^ 64 → Uleb v (shortest_uleb v)
unfolding shortest_uleb
shortest_uleb-spells v fits = let s = leb_spells 9 v (omega arith) in record { shape = s.0; value = sym s.1; fits = fits }

pub shortest_uleb-least : (v : ℕ) (other : List ℕ) → Uleb v other → length (shortest_uleb v) ≤ length other
unfolding shortest_uleb
shortest_uleb-least v other u = leb_shortest 9 v other u.shape u.value

-- a spelling that is as short is the shortest
pub shortest_uleb-only : (v : ℕ) (b : List ℕ) → Uleb v b → length b ≤ length (shortest_uleb v) → b ≡ shortest_uleb v
shortest_uleb-only v b u le =
    let s = shortest_uleb-spells v u.fits in
    leb_same b (shortest_uleb v) u.shape s.shape (let l = shortest_uleb-least v b u in omega arith) (sym u.value ∙ s.value)

pub shortest_sleb-spells : (z : ℤ) → FitsSigned w64 z → Sleb z (shortest_sleb z)
unfolding shortest_sleb
shortest_sleb-spells (pos m) fits = let h : m < 2 ^ 63 = omega (arith, ints, fits) in of_turned false m (turned_leb false 9 m) h (turned_spells false 9 m (omega arith))
shortest_sleb-spells (negsuc m) fits = let h : m < 2 ^ 63 = omega (arith, ints, fits) in of_turned true m (turned_leb true 9 m) h (turned_spells true 9 m (omega arith))

pub shortest_sleb-least : (z : ℤ) (other : List ℕ) → Sleb z other → length (shortest_sleb z) ≤ length other
unfolding shortest_sleb
shortest_sleb-least (pos m) other s = turned_shortest false 9 m other (turned_of false m other s)
shortest_sleb-least (negsuc m) other s = turned_shortest true 9 m other (turned_of true m other s)

sleb_same : (t : Bool) (m : ℕ) (a b : List ℕ) → SpellsTurned t m a → SpellsTurned t m b → length a ≡ length b → a ≡ b
sleb_same t m a b p q l = turned_same t a b p.shape q.shape l (p.sum ∙ sym q.sum)

pub shortest_sleb-only : (z : ℤ) (b : List ℕ) → Sleb z b → length b ≤ length (shortest_sleb z) → b ≡ shortest_sleb z
shortest_sleb-only z b s le =
    let l = shortest_sleb-least z b s in
    let same : length b ≡ length (shortest_sleb z) = omega arith in
    by_case z (shortest_sleb z) s (shortest_sleb-spells z s.fits) same
  where
    by_case : (z : ℤ) (c : List ℕ) → Sleb z b → Sleb z c → length b ≡ length c → b ≡ c
    by_case (pos m) c p q l = sleb_same false m b c (turned_of false m b p) (turned_of false m c q) l
    by_case (negsuc m) c p q l = sleb_same true m b c (turned_of true m b p) (turned_of true m c q) l

-- ---- their lengths

pub shortest_uleb-most : (v k : ℕ) → v < 128 ^ suc k → length (shortest_uleb v) ≤ suc k
unfolding shortest_uleb
shortest_uleb-most v k lt = leb_most 9 v k lt

pub shortest_sleb-most : (m k : ℕ) → m < 64 * 128 ^ k → length (shortest_sleb (negsuc m)) ≤ suc k
unfolding shortest_sleb
shortest_sleb-most m k lt = turned_most true 9 m k lt

pub leb_some : (b : List ℕ) → IsLeb b → 1 ≤ length b
leb_some [] h = absurd h
leb_some (x ∷ b) h = omega arith

-- the first byte, and the spelling of the rest of the number
pub shortest_uleb-last : (v : ℕ) → v < 128 → shortest_uleb v ≡ v ∷ []
unfolding shortest_uleb
shortest_uleb-last v lt = rw (lt-ltb v 128 lt) refl

pub shortest_uleb-next : (v : ℕ) → 128 ≤ v → v < 2 ^ 64 → shortest_uleb v ≡ (v % 128 + 128) ∷ shortest_uleb (v / 128)
unfolding shortest_uleb
shortest_uleb-next v big fits = rw (le-ltb v 128 big, leb_enough 8 (v / 128) (omega arith)) (ap (λ (b : ℕ). b ∷ leb_of 8 (v / 128)) (omega arith))

pub shortest_uleb-one : (v : ℕ) → v < 128 → length (shortest_uleb v) ≡ 1
shortest_uleb-one v lt = rw (shortest_uleb-last v lt) refl

pub shortest_uleb-ten : (v : ℕ) → v < 2 ^ 64 → length (shortest_uleb v) ≤ 10
shortest_uleb-ten v fits = shortest_uleb-most v 9 (omega arith)

pub shortest_signed-last : (t : Bool) (m byte : ℕ) → m < 64 → byte ≡ turned t m → shortest_sleb (as_signed t m) ≡ byte ∷ []
unfolding shortest_sleb
shortest_signed-last true m byte lt is = rw (lt-ltb m 64 lt, is) refl
shortest_signed-last false m byte lt is = rw (lt-ltb m 64 lt, is) refl

pub shortest_signed-next : (t : Bool) (m byte : ℕ) → 64 ≤ m → m < 2 ^ 63 → byte ≡ turned t (m % 128) + 128 → shortest_sleb (as_signed t m) ≡ byte ∷ shortest_sleb (as_signed t (m / 128))
unfolding shortest_sleb
shortest_signed-next true m byte big fits is = rw (le-ltb m 64 big, turned_enough true 8 (m / 128) (omega arith)) (ap (λ (b : ℕ). b ∷ turned_leb true 8 (m / 128)) (omega arith))
shortest_signed-next false m byte big fits is = rw (le-ltb m 64 big, turned_enough false 8 (m / 128) (omega arith)) (ap (λ (b : ℕ). b ∷ turned_leb false 8 (m / 128)) (omega arith))

pub signed_length : (t : Bool) (m : ℕ) → length (shortest_uleb (2 * m)) ≡ length (shortest_sleb (as_signed t m))
unfolding shortest_uleb shortest_sleb
signed_length true m = turned_length true 9 (2 * m) m (omega arith)
signed_length false m = turned_length false 9 (2 * m) m (omega arith)

-- what is appended as the shortest spelling is this one, and the other way about
pub appends_uleb : (v : ℕ) (old new : List ℕ) → v < 2 ^ 64 → new ≡ old ++ shortest_uleb v → PutsUleb v old new
appends_uleb v old new fits e = record { spelling = shortest_uleb v; spells = shortest_uleb-spells v fits; shortest = shortest_uleb-least v; appended = e }

pub appends_sleb : (z : ℤ) (old new : List ℕ) → FitsSigned w64 z → new ≡ old ++ shortest_sleb z → PutsSleb z old new
appends_sleb z old new fits e = record { spelling = shortest_sleb z; spells = shortest_sleb-spells z fits; shortest = shortest_sleb-least z; appended = e }

pub puts_uleb : (v : ℕ) (old new : List ℕ) → PutsUleb v old new → new ≡ old ++ shortest_uleb v
puts_uleb v old new p = p.appended ∙ ap (λ (b : List ℕ). old ++ b)
    (shortest_uleb-only v p.spelling p.spells (p.shortest (shortest_uleb v) (shortest_uleb-spells v p.spells.fits)))

pub puts_sleb : (z : ℤ) (old new : List ℕ) → PutsSleb z old new → new ≡ old ++ shortest_sleb z
puts_sleb z old new p = p.appended ∙ ap (λ (b : List ℕ). old ++ b)
    (shortest_sleb-only z p.spelling p.spells (p.shortest (shortest_sleb z) (shortest_sleb-spells z p.spells.fits)))

-- ---- a spelling that is appended byte by byte

-- so much of all was appended, and this is left
pub record IsGoing (all old new rest : List ℕ) : Type 0 where
  pub front : List ℕ
  pub appended : new ≡ old ++ front
  pub whole : front ++ rest ≡ all

pub starts : (all old : List ℕ) → IsGoing all old old all
starts all old = record { front = []; appended = sym (append-nil old); whole = refl }

pub goes : (all old new rest : List ℕ) (byte : ℕ) → IsGoing all old new (byte ∷ rest) → IsGoing all old (new ++ byte ∷ []) rest
goes all old new rest byte w = record { front = w.front ++ byte ∷ []; appended = ap (λ (l : List ℕ). l ++ byte ∷ []) w.appended ∙ append_assoc old w.front (byte ∷ []); whole = append_assoc w.front (byte ∷ []) rest ∙ w.whole }

pub ends : (all old new : List ℕ) (byte : ℕ) → IsGoing all old new (byte ∷ []) → new ++ byte ∷ [] ≡ old ++ all
ends all old new byte w = ap (λ (l : List ℕ). l ++ byte ∷ []) w.appended ∙ append_assoc old w.front (byte ∷ []) ∙ ap (λ (l : List ℕ). old ++ l) w.whole
