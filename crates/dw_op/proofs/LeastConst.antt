-- The table of least constants: what each form can write, that no form beats the table's line, and that nothing else is as short.
use Rattle.std.proofs.Math.Nat.{mod-le, pow-le-pow_right}
use Rattle.dw_num.specs.Inner.Scan.{turned_from, as_signed}
use Rattle.dw_num.proofs.Lent.Turned.{signed_groups-turned}
use Rattle.dw_op.specs.{declared.least.Operand.Operand, Inner.LeastOf.constant}
use Rattle.dw_op.specs.declared.least.Operand.TheVariants as operand
use Rattle.dw_op.proofs.Words.{◌≡◌, ℕ, suc, ◌+◌, ◌-◌, ◌*◌, ◌%◌, ◌^◌, ◌<◌, ◌≤◌, Bool, true, false, List, [], ◌∷◌, length, get_or, refl, sym, ap, subst, ◌∙◌, inl, inr, lit<, arith, ℤ, pos, negsuc, FitsSigned, nat_lt}
use Rattle.dw_op.proofs.Words.{nat_le, nat_eq, if◌then◌else◌, Width, w8, w16, w32, w64, byte_len, cast_unsigned, cases_lt, lt-ltb, le-ltb, le-leb, ints, mod-eq_of_lt, Target, Order, Size, Four, Eight, address_limit}
use Rattle.dw_op.proofs.Words.{is_negative, Uleb, Sleb, fixed_bytes, Fixed, FixedSigned, shortest_uleb, shortest_sleb, length-fixed, leb_some, groups_below, turned_within, shortest_uleb-least, shortest_sleb-least}
use Rattle.dw_op.proofs.Words.{shortest_uleb-spells, shortest_uleb-most, shortest_uleb-only, shortest_sleb-spells, shortest_sleb-most, shortest_sleb-only, Op, Const, Spelling, Code, Unsigned, ConstForm, Const1u}
use Rattle.dw_op.proofs.{Words.{Const1s, Const2u, Const2s, Const4u, Const4s, Const8u, Const8s, Constu, Consts, Lit, Written, modulo, AtMost, Least, spelling, operand_bytes, spelling_bytes}, Lent.Spellings.{by_table, in_table}}

-- ---- what a form can write

-- v, read as signed, lies from -m to m - 1
abbrev Near : ℕ → ℕ → ℕ → Type 0
Near limit m v = m ≤ v → limit ≤ v + m

-- what v, the opcode and the length are, where this form writes v
abbrev Reach : ℕ → ConstForm → ℕ → ℕ → ℕ → Type 0
Reach limit Lit v code len = (len ≡ 1) × (code ≡ 0x30 + v) × (v < 32)
Reach limit Const1u v code len = (len ≡ 2) × (code ≡ 0x08) × (v < 2 ^ 8)
Reach limit Const1s v code len = (len ≡ 2) × (code ≡ 0x09) × Near limit (2 ^ 7) v
Reach limit Const2u v code len = (len ≡ 3) × (code ≡ 0x0a) × (v < 2 ^ 16)
Reach limit Const2s v code len = (len ≡ 3) × (code ≡ 0x0b) × Near limit (2 ^ 15) v
Reach limit Const4u v code len = (len ≡ 5) × (code ≡ 0x0c) × (v < 2 ^ 32)
Reach limit Const4s v code len = (len ≡ 5) × (code ≡ 0x0d) × Near limit (2 ^ 31) v
Reach limit Const8u v code len = (len ≡ 9) × (code ≡ 0x0e)
Reach limit Const8s v code len = (len ≡ 9) × (code ≡ 0x0f)
Reach limit Constu v code len = (code ≡ 0x10) × (2 ≤ len) × ((k : ℕ) → len ≤ suc k → v < 128 ^ k)
Reach limit Consts v code len = (code ≡ 0x11) × (2 ≤ len) × ((k : ℕ) → len ≤ suc (suc k) → Near limit (64 * 128 ^ k) v)

-- length first, and then the opcode, which is below 256
abbrev Less : ℕ → ℕ → ℕ → ℕ → Type 0
Less len code len' code' = len * 256 + code < len' * 256 + code'

-- ---- no form beats a line

-- what no form beats, line by line of the table
record Lines (limit v code len : ℕ) : Type 0 where
  lit : Less len code 1 (0x30 + v) → v < 32 → ⊥
  u1 : Less len code 2 0x08 → 32 ≤ v → ⊥
  s1 : Less len code 2 0x09 → 2 ^ 8 ≤ v → ⊥
  u2 : Less len code 3 0x0a → 2 ^ 8 ≤ v → v + 2 ^ 7 < limit → ⊥
  s2 : Less len code 3 0x0b → 2 ^ 16 ≤ v → v + 2 ^ 7 < limit → ⊥
  u3 : Less len code 4 0x10 → 2 ^ 16 ≤ v → v + 2 ^ 15 < limit → ⊥
  s3 : Less len code 4 0x11 → 2 ^ 21 ≤ v → v + 2 ^ 15 < limit → ⊥
  u4 : Less len code 5 0x0c → 2 ^ 21 ≤ v → v + 2 ^ 20 < limit → ⊥
  s4 : Less len code 5 0x0d → 2 ^ 32 ≤ v → v + 2 ^ 20 < limit → ⊥
  u5 : Less len code 6 0x10 → 2 ^ 32 ≤ v → v + 2 ^ 31 < limit → ⊥
  s5 : Less len code 6 0x11 → 2 ^ 35 ≤ v → v + 2 ^ 31 < limit → ⊥
  u6 : Less len code 7 0x10 → 2 ^ 35 ≤ v → v + 2 ^ 34 < limit → ⊥
  s6 : Less len code 7 0x11 → 2 ^ 42 ≤ v → v + 2 ^ 34 < limit → ⊥
  u7 : Less len code 8 0x10 → 2 ^ 42 ≤ v → v + 2 ^ 41 < limit → ⊥
  s7 : Less len code 8 0x11 → 2 ^ 49 ≤ v → v + 2 ^ 41 < limit → ⊥
  u8 : Less len code 9 0x0e → 2 ^ 49 ≤ v → v + 2 ^ 48 < limit → ⊥

lines : (limit v code len : ℕ) (form : ConstForm) → v < limit → 2 ^ 32 ≤ limit → Reach limit form v code len → Lines limit v code len
lines limit v code len Lit small wide r = omega arith
lines limit v code len Constu small wide r = let a = r.2 1 in let b = r.2 2 in let c = r.2 3 in let d = r.2 4 in let e = r.2 5 in let f = r.2 6 in let g = r.2 7 in omega arith
lines limit v code len Consts small wide r = let a = r.2 0 in let b = r.2 1 in let c = r.2 2 in let d = r.2 3 in let e = r.2 4 in let f = r.2 5 in let g = r.2 6 in omega arith
lines limit v code len other small wide r = omega arith

-- ---- what is written is in reach

abbrev Within : ℕ → ℤ → Type 0
Within m (pos n) = n < m
Within m (negsuc n) = n < m

-- a signed number that is at least -m and below m comes near
near : (limit m v : ℕ) (z : ℤ) → 0 < limit → v ≡ modulo limit z → Within m z → Near limit m v
near limit m v (pos n) wide e h above = let small : n % limit ≤ n = mod-le n limit in omega arith
near limit m v (negsuc n) wide e h above = let small : n % limit ≤ n = mod-le n limit in omega arith

within_more : (m m' : ℕ) (z : ℤ) → m ≤ m' → Within m z → Within m' z
within_more m m' (pos n) le h = omega arith
within_more m m' (negsuc n) le h = omega arith

-- half of what is below 256 ^ n
abbrev half : Width → ℕ
half w = 128 * 256 ^ (byte_len w - 1)

within : (w : Width) (z : ℤ) → FitsSigned w z → Within (half w) z
within w8 (pos n) h = h.sfits
within w8 (negsuc n) h = h.sfits
within w (pos n) h = h.sfits
within w (negsuc n) h = h.sfits

-- a SLEB of at most k + 1 bytes
sleb_within : (z : ℤ) (bytes : List ℕ) (k : ℕ) → Sleb z bytes → length bytes ≤ suc k → Within (64 * 128 ^ k) z
sleb_within z [] k s short = absurd s.shape
sleb_within z (x ∷ bytes) k s short =
    let t = is_negative (x ∷ bytes) in
    let here : Within (64 * 128 ^ length bytes) z = rw (s.value, signed_groups-turned (x ∷ bytes) t refl) (by_sign t (turned_from t 0 (x ∷ bytes)) (64 * 128 ^ length bytes) (turned_within t (x ∷ bytes) (length bytes) refl refl)) in
    let mono : 128 ^ length bytes ≤ 128 ^ k = pow-le-pow_right (lit< tt) (omega arith) in
    within_more (64 * 128 ^ length bytes) (64 * 128 ^ k) z (omega arith) here
  where
    by_sign : (t : Bool) (m K : ℕ) → m < K → Within K (as_signed t m)
    by_sign true m K h = h
    by_sign false m K h = h

-- the number that is v modulo the limit, where it is below the limit
number_is : (limit v n : ℕ) (z : ℤ) → v ≡ modulo limit z → z ≡ pos n → n < limit → n ≡ v
number_is limit v n z e is lt = let f : v ≡ n % limit = rw is at e in let g : n % limit ≡ n = mod-eq_of_lt lt in omega arith

-- and the negative one, where it is not far below zero
negative_is : (limit v m : ℕ) (z : ℤ) → v ≡ modulo limit z → Within m z → m ≤ v → m ≤ limit → z ≡ negsuc (limit - 1 - v)
negative_is limit v m (pos n) e within big fits = let g : n % limit ≡ n = mod-eq_of_lt (omega arith) in absurd (omega arith)
negative_is limit v m (negsuc n) e within big fits = let g : n % limit ≡ n = mod-eq_of_lt (omega arith) in let h : n ≡ limit - 1 - v = omega arith in ap negsuc h

module _ (limit : ℕ) (wide : 2 ^ 32 ≤ limit) (o : Order) (v : ℕ) (z : ℤ) (bytes : List ℕ) (e : v ≡ modulo limit z) where
  below : (n : ℕ) → z ≡ pos n → v ≤ n
  below n is = let same : v ≡ n % limit = rw is at e in let small : n % limit ≤ n = mod-le n limit in omega arith

  natural_reach : (code n : ℕ) → Code code (Unsigned (Fixed o n) z) bytes → (length bytes ≡ suc n) × (get_or bytes 0 0 ≡ code) × (v < 256 ^ n)
  natural_reach code n h = rw (h.whole, h.operands.spelled.bytes, length-fixed o n h.operands.number) (refl, refl, omega (arith, below h.operands.number h.operands.is, h.operands.spelled.fits))

  signed_reach : (code : ℕ) (w : Width) → Code code (FixedSigned o w z) bytes → (length bytes ≡ suc (byte_len w)) × (get_or bytes 0 0 ≡ code) × Near limit (half w) v
  signed_reach code w h = rw (h.whole, h.operands.bytes, length-fixed o (byte_len w) (cast_unsigned w z)) (refl, refl, near limit (half w) v z (omega arith) e (within w z h.operands.fits))

  reach : (form : ConstForm) → Written o form z bytes → Reach limit form v (get_or bytes 0 0) (length bytes)
  reach Lit h =
      let lt = h.spelled.0 in
      let is : h.number ≡ v = number_is limit v h.number z e h.is (omega arith) in
      rw (h.spelled.1, is) (refl, refl, omega arith)
  reach Const1u h = natural_reach 0x08 1 h
  reach Const1s h = signed_reach 0x09 w8 h
  reach Const2u h = natural_reach 0x0a 2 h
  reach Const2s h = signed_reach 0x0b w16 h
  reach Const4u h = natural_reach 0x0c 4 h
  reach Const4s h = signed_reach 0x0d w32 h
  reach Const8u h = rw (h.whole, h.operands.spelled.bytes, length-fixed o 8 h.operands.number) (refl, refl)
  reach Const8s h = rw (h.whole, h.operands.bytes, length-fixed o 8 _) (refl, refl)
  reach Constu h =
      let le = below h.operands.number h.operands.is in
      let value = h.operands.spelled.value in
      let small = groups_below h.rest in
      let n = leb_some h.rest h.operands.spelled.shape in
      rw h.whole (refl, omega arith, λ k le'. let p : 128 ^ length h.rest ≤ 128 ^ k = pow-le-pow_right (lit< tt) (omega arith) in omega arith)
  reach Consts h =
      let n = leb_some h.rest h.operands.shape in
      rw h.whole (refl, omega arith, λ k le. near limit (64 * 128 ^ k) v z (omega arith) e (sleb_within z h.rest k h.operands (omega arith)))

-- ---- two least spellings

-- the same length, and the same first byte
pub record SameHead (a b : List ℕ) : Type 0 where
  pub length_is : length a ≡ length b
  pub code_is : get_or a 0 0 ≡ get_or b 0 0

pub same_head : (t : Target) (op : Op) (a b : List ℕ) → Least t op a → Least t op b → SameHead a b
same_head t op a b l m =
    let p = l.least b m.spells in
    let q = m.least a l.spells in
    record { length_is = omega arith; code_is = omega arith }

most_of : (a b : List ℕ) (most : ℕ) → length a ≤ most → get_or b 0 0 < 256 → (Less (length b) (get_or b 0 0) most (get_or a 0 0) → ⊥) → AtMost a b
most_of a b most short byte beats = elim (cases_lt (length a) (length b)) [
  | inl lt ↦ inl lt
  | inr ge ↦ inr (omega arith, omega arith)
]

-- the form of an opcode
abbrev form_at : ℕ → ConstForm
form_at code =
    if nat_le 0x30 code then Lit else
    if nat_eq code 0x08 then Const1u else
    if nat_eq code 0x09 then Const1s else
    if nat_eq code 0x0a then Const2u else
    if nat_eq code 0x0b then Const2s else
    if nat_eq code 0x0c then Const4u else
    if nat_eq code 0x0d then Const4s else
    if nat_eq code 0x0e then Const8u else
    if nat_eq code 0x0f then Const8s else
    if nat_eq code 0x10 then Constu else Consts

lit_form : (n : ℕ) → form_at (0x30 + n) ≡ Lit
lit_form n = rw (le-leb 0x30 (0x30 + n) (omega arith)) refl

-- what a form writes begins with its opcode
opens : (o : Order) (form : ConstForm) (z : ℤ) (b : List ℕ) → Written o form z b → (get_or b 0 0 < 256) × (form ≡ form_at (get_or b 0 0))
opens o Lit z b h = let lt = h.spelled.0 in rw h.spelled.1 (omega arith, sym (lit_form h.number))
opens o other z b h = rw h.whole (omega arith, refl)

-- ---- the table

-- a test chooses one of two
pub by_test : (P : Spelling → Type 0) (m n : ℕ) (x y : Spelling) → (m < n → P x) → (n ≤ m → P y) → P (if nat_lt m n then x else y)
by_test P m n x y f g = elim (cases_lt m n) [ inl lt ↦ rw (lt-ltb m n lt) (f lt) | inr ge ↦ rw (le-ltb m n ge) (g ge) ]

-- the low bytes of a number that is near the limit
low : (s : Size) (w : Width) (v : ℕ) → byte_len w ≤ 4 → v < address_limit s → 2 * (address_limit s - 1 - v) < 256 ^ byte_len w → v % 256 ^ byte_len w ≡ cast_unsigned w (negsuc (address_limit s - 1 - v))
low Four w8 v few h close = omega (arith, ints)
low Eight w8 v few h close = omega (arith, ints)
low s w v few h close = omega (arith, ints)

-- the limit is 2 ^ 32 or 2 ^ 64, and not the first where v is as large
limits : (s : Size) (v : ℕ) → v < address_limit s → (2 ^ 32 ≤ address_limit s) × (address_limit s ≤ 2 ^ 64) × (2 ^ 32 ≤ v → address_limit s ≡ 2 ^ 64)
limits Four v small = omega arith
limits Eight v small = omega arith

modulo_number : (limit v : ℕ) → v < limit → v ≡ modulo limit (pos v)
modulo_number limit v h = let e : v % limit ≡ v = mod-eq_of_lt h in omega arith

modulo_under : (limit v : ℕ) → v < limit → v ≡ modulo limit (negsuc (limit - 1 - v))
modulo_under limit v h = let e : (limit - 1 - v) % limit ≡ limit - 1 - v = mod-eq_of_lt (omega arith) in omega arith

-- ---- the shortest operands

-- these spell the operands, and nothing else does so in as few bytes
pub record Shortest (Operands : List ℕ → Type 0) (operand : List ℕ) : Type 0 where
  pub spells : Operands operand
  pub least : (c : List ℕ) → Operands c → length operand ≤ length c
  pub only : (c : List ℕ) → Operands c → length c ≤ length operand → c ≡ operand

pub shortest_fixed : (o : Order) (n v : ℕ) → v < 256 ^ n → Shortest (Fixed o n v) (fixed_bytes o n v)
shortest_fixed o n v fits = record { spells = record { bytes = refl; fits = fits }; least = λ c h. rw h.bytes (omega arith); only = λ c h le. h.bytes }

pub the_uleb : (n : ℕ) → n < 2 ^ 64 → Shortest (Uleb n) (shortest_uleb n)
the_uleb n fits = record { spells = shortest_uleb-spells n fits; least = shortest_uleb-least n; only = shortest_uleb-only n }

pub the_sleb : (z : ℤ) → FitsSigned w64 z → Shortest (Sleb z) (shortest_sleb z)
the_sleb z fits = record { spells = shortest_sleb-spells z fits; least = shortest_sleb-least z; only = shortest_sleb-only z }

the_unsigned : (Spells : ℕ → List ℕ → Type 0) (v : ℕ) (operand : List ℕ) → Shortest (Spells v) operand → Shortest (Unsigned Spells (pos v)) operand
the_unsigned Spells v operand s = record { spells = record { number = v; is = refl; spelled = s.spells }; least = λ c h. s.least c (spelled c h); only = λ c h. s.only c (spelled c h) }
  where
    spelled : (c : List ℕ) → Unsigned Spells (pos v) c → Spells v c
    spelled c h = let is : h.number ≡ v = cc in subst (λ (n : ℕ). Spells n c) is h.spelled

-- the only least spelling
pub record Best (t : Target) (op : Op) (bytes : List ℕ) : Type 0 where
  pub found : Least t op bytes
  pub only : (b : List ℕ) → Least t op b → b ≡ bytes

module _ (t : Target) (v : ℕ) (small : v < address_limit t.size) where
  abbrev BestOf : Spelling → Type 0
  BestOf s = Best t (Const v) (spelling_bytes t.order s)

  abbrev limit : ℕ
  limit = address_limit t.size

  abbrev under : ℕ
  under = address_limit t.size - 1 - v

  -- no form beats this length and opcode
  abbrev Beaten : ℕ → ℕ → Type 0
  Beaten most code = (c len : ℕ) → Lines limit v c len → Less len c most code → ⊥

  -- a code and operands that no form beats, where this form writes v by no other number
  best : (code most : ℕ) (o : Operand) (form : ConstForm) (Spells : ℤ → List ℕ → Type 0) (z : ℤ) → form ≡ form_at code → v ≡ modulo limit z
      → ((y : ℤ) (b : List ℕ) → Code code (Spells y) b → Written t.order form y b) → ((y : ℤ) (b : List ℕ) → Written t.order form y b → v ≡ modulo limit y → Code code (Spells y) b)
      → Shortest (Spells z) (operand_bytes t.order o) → length (operand_bytes t.order o) ≤ most → ((y : ℤ) (r : List ℕ) → Spells y r → v ≡ modulo limit y → length r ≤ most → y ≡ z)
      → Beaten (suc most) code → BestOf (spelling code o)
  best code most o form Spells z is value to from s short one beaten = record { found = found; only = only }
    where
      found : Least t (Const v) (code ∷ operand_bytes t.order o)
      found = record {
        spells = in_table t (Const v) _ (record { form = form; number = z; written = to z (code ∷ operand_bytes t.order o) (record { rest = operand_bytes t.order o; operands = s.spells; whole = refl }); value = value });
        least = λ b k.
            let c = by_table t (Const v) b k in
            let least = (limits t.size v small).0 in
            let r = reach limit least t.order v c.number b c.value c.form c.written in
            most_of (code ∷ operand_bytes t.order o) b (suc most) (omega arith) (opens t.order c.form c.number b c.written).0 (beaten _ _ (lines limit v _ _ c.form small least r));
      }

      only : (b : List ℕ) → Least t (Const v) b → b ≡ code ∷ operand_bytes t.order o
      only b l =
          let head = same_head t (Const v) b (code ∷ operand_bytes t.order o) l found in
          let c = by_table t (Const v) b l.spells in
          let form_is : c.form ≡ form = (opens t.order c.form c.number b c.written).1 ∙ ap form_at head.code_is ∙ sym is in
          let w = from c.number b (subst (λ (f : ConstForm). Written t.order f c.number b) form_is c.written) c.value in
          let long : length w.rest ≤ length (operand_bytes t.order o) = omega (arith, head.length_is, ap length w.whole) in
          let same_number : c.number ≡ z = one c.number w.rest w.operands c.value (omega arith) in
          w.whole ∙ ap (λ (r : List ℕ). code ∷ r) (s.only w.rest (subst (λ (y : ℤ). Spells y w.rest) same_number w.operands) long)

  best_lit : v < 32 → BestOf (spelling (0x30 + v) operand.Nothing)
  best_lit lt =
      let l = limits t.size v small in
      best (0x30 + v) 0 operand.Nothing Lit (λ y r. (y ≡ pos v) × (r ≡ [])) (pos v) (sym (lit_form v)) (modulo_number limit v small)
      (λ y b c. record { number = v; is = c.operands.0; spelled = (lt, c.whole ∙ ap (λ (r : List ℕ). (0x30 + v) ∷ r) c.operands.1) })
      (λ y b w e.
      let n = w.spelled.0 in
      let least = l.0 in
      let is : w.number ≡ v = number_is limit v w.number y e w.is (omega arith) in
      record { rest = []; operands = (w.is ∙ ap pos is, refl); whole = w.spelled.1 ∙ ap (λ (m : ℕ). (0x30 + m) ∷ []) is })
      (record { spells = (refl, refl); least = λ c h. omega arith; only = λ c h le. h.1 }) (omega arith) (λ y r h e le. h.0) (λ c n h less. h.lit less lt)

  -- the number itself, in n bytes
  best_number : (code n : ℕ) (o : Operand) (form : ConstForm) → form ≡ form_at code → operand_bytes t.order o ≡ fixed_bytes t.order n v → v < 256 ^ n → 256 ^ n ≤ limit
      → ((z : ℤ) (b : List ℕ) → Code code (Unsigned (Fixed t.order n) z) b → Written t.order form z b) → ((z : ℤ) (b : List ℕ) → Written t.order form z b → v ≡ modulo limit z → Code code (Unsigned (Fixed t.order n) z) b)
      → Beaten (suc n) code → BestOf (spelling code o)
  best_number code n o form is bytes lt fits to from =
      best code n o form (Unsigned (Fixed t.order n)) (pos v) is (modulo_number limit v small) to from
      (the_unsigned (Fixed t.order n) v (operand_bytes t.order o) (rw bytes (shortest_fixed t.order n v lt))) (rw bytes (omega (arith, length-fixed t.order n v)))
      (λ y r h e le. let below = h.spelled.fits in h.is ∙ ap pos (number_is limit v h.number y e h.is (omega arith)))

  -- its low bytes, read as a negative number
  best_low : (code : ℕ) (w : Width) (o : Operand) (form : ConstForm) → form ≡ form_at code → operand_bytes t.order o ≡ fixed_bytes t.order (byte_len w) (cast_unsigned w (negsuc under)) → FitsSigned w (negsuc under) → half w ≤ v → half w ≤ limit
      → ((z : ℤ) (b : List ℕ) → Code code (FixedSigned t.order w z) b → Written t.order form z b) → ((z : ℤ) (b : List ℕ) → Written t.order form z b → v ≡ modulo limit z → Code code (FixedSigned t.order w z) b)
      → Beaten (suc (byte_len w)) code → BestOf (spelling code o)
  best_low code w o form is bytes fits big narrow to from =
      best code (byte_len w) o form (FixedSigned t.order w) (negsuc under) is (modulo_under limit v small) to from
      (record { spells = record { bytes = bytes; fits = fits }; least = λ c h. rw (bytes, h.bytes) (omega arith); only = λ c h le. h.bytes ∙ sym bytes })
      (rw bytes (omega (arith, length-fixed t.order (byte_len w) (cast_unsigned w (negsuc under))))) (λ y r h e le. negative_is limit v (half w) y e (within w y h.fits) big narrow)

  best_uleb : (k : ℕ) → v < 128 ^ suc k → 128 ^ suc k ≤ limit → Beaten (suc (suc k)) 0x10 → BestOf (spelling 0x10 (operand.Unsigned v))
  best_uleb k lt fits =
      let l = limits t.size v small in
      best 0x10 (suc k) (operand.Unsigned v) Constu (Unsigned Uleb) (pos v) refl (modulo_number limit v small) (λ y b w. w) (λ y b w e. w)
      (the_unsigned Uleb v (shortest_uleb v) (the_uleb v (let most = l.1 in omega arith))) (shortest_uleb-most v k lt)
      (λ y r h e le.
      let low = groups_below r in
      let value = h.spelled.value in
      let mono : 128 ^ length r ≤ 128 ^ suc k = pow-le-pow_right (lit< tt) le in
      h.is ∙ ap pos (number_is limit v h.number y e h.is (omega arith)))

  best_sleb : (k : ℕ) → 64 * 128 ^ k ≤ v → under < 64 * 128 ^ k → 64 * 128 ^ k ≤ 2 ^ 62 → Beaten (suc (suc k)) 0x11 → BestOf (spelling 0x11 (operand.Signed (negsuc under)))
  best_sleb k big lt fits =
      best 0x11 (suc k) (operand.Signed (negsuc under)) Consts Sleb (negsuc under) refl (modulo_under limit v small) (λ y b w. w) (λ y b w e. w)
      (the_sleb (negsuc under) (omega (arith, ints))) (shortest_sleb-most under k lt) (λ y r h e le. negative_is limit v (64 * 128 ^ k) y e (sleb_within y r k h le) big (omega arith))

  -- one test of the table after another
  pub constant_best : Best t (Const v) (spelling_bytes t.order (constant v under))
  constant_best =
      let l = limits t.size v small in
      let least = l.0 in
      let wide = l.2 in
      by_test BestOf v 32 _ _ best_lit
      (λ a. by_test BestOf v (2 ^ 8) _ _ (λ x. best_number 0x08 1 (operand.Byte v) Const1u refl refl x (omega arith) (λ z x w. w) (λ z x w e. w) (λ z y r less. r.u1 less a))
      (λ b. by_test BestOf under (2 ^ 7) _ _ (λ x. best_low 0x09 w8 (operand.Byte (v % 2 ^ 8)) Const1s refl (ap (fixed_bytes t.order 1) (low t.size w8 v (omega arith) small (omega arith))) (omega (arith, ints)) (omega arith) (omega arith) (λ z x w. w) (λ z x w e. w) (λ z y r less. r.s1 less b))
      (λ c. by_test BestOf v (2 ^ 16) _ _ (λ x. best_number 0x0a 2 (operand.Half v) Const2u refl refl x (omega arith) (λ z x w. w) (λ z x w e. w) (λ z y r less. r.u2 less b (omega arith)))
      (λ d. by_test BestOf under (2 ^ 15) _ _ (λ x. best_low 0x0b w16 (operand.Half (v % 2 ^ 16)) Const2s refl (ap (fixed_bytes t.order 2) (low t.size w16 v (omega arith) small (omega arith))) (omega (arith, ints)) (omega arith) (omega arith) (λ z x w. w) (λ z x w e. w) (λ z y r less. r.s2 less d (omega arith)))
      (λ e. by_test BestOf v (2 ^ 21) _ _ (λ x. best_uleb 2 x (omega arith) (λ z y r less. r.u3 less d (omega arith)))
      (λ f. by_test BestOf under (2 ^ 20) _ _ (λ x. best_sleb 2 (omega arith) x (omega arith) (λ z y r less. r.s3 less f (omega arith)))
      (λ g. by_test BestOf v (2 ^ 32) _ _ (λ x. best_number 0x0c 4 (operand.Word v) Const4u refl refl x (omega arith) (λ z x w. w) (λ z x w e. w) (λ z y r less. r.u4 less f (omega arith)))
      (λ h. by_test BestOf under (2 ^ 31) _ _ (λ x. best_low 0x0d w32 (operand.Word (v % 2 ^ 32)) Const4s refl (ap (fixed_bytes t.order 4) (low t.size w32 v (omega arith) small (omega arith))) (omega (arith, ints)) (omega arith) (omega arith) (λ z x w. w) (λ z x w e. w) (λ z y r less. r.s4 less h (omega arith)))
      (λ i.
      let most = wide h in
      by_test BestOf v (2 ^ 49) _ _ (λ x. elim (cases_lt v (2 ^ 35)) [
        | inl y ↦ best_uleb 4 y (omega arith) (λ z w r less. r.u5 less h (omega arith))
        | inr y ↦ elim (cases_lt v (2 ^ 42)) [
          | inl k ↦ best_uleb 5 k (omega arith) (λ z w r less. r.u6 less y (omega arith))
          | inr k ↦ best_uleb 6 x (omega arith) (λ z w r less. r.u7 less k (omega arith))
        ]
      ])
      (λ n. by_test BestOf under (2 ^ 48) _ _ (λ x. elim (cases_lt under (2 ^ 34)) [
        | inl y ↦ best_sleb 4 (omega arith) y (omega arith) (λ z w r less. r.s5 less (omega arith) (omega arith))
        | inr y ↦ elim (cases_lt under (2 ^ 41)) [
          | inl k ↦ best_sleb 5 (omega arith) k (omega arith) (λ z w r less. r.s6 less (omega arith) (omega arith))
          | inr k ↦ best_sleb 6 (omega arith) x (omega arith) (λ z w r less. r.s7 less n (omega arith))
        ]
      ])
      (λ o. best_number 0x0e 8 (operand.Double v) Const8u refl refl (omega arith) (omega arith) (λ z x w. w) (λ z x w e. w) (λ z y r less. r.u8 less n (omega arith)))))))))))))
