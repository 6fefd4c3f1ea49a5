-- An item at the front, and items in a row.
use Rattle.dw_section.proofs.Words.{Placed, IsPlaced, item_of, piece_in, eqb, false, inl, inr, ◌≡◌, ℕ, ◌+◌, add-zero, zero-add, ◌<◌, ◌≤◌, Result, Ok, Err, List, [], ◌∷◌, ◌++◌, length, Option, Some, None, refl, sym, ap, subst, ◌∙◌}
use Rattle.dw_section.proofs.Words.{append_assoc, arith, le-ltb, AllByRecursion, cons_option, length-append, append-nil, take_at, drop_at, ne_eqb, length-fixed, unit_length_only, length_bytes, Form, Target, Refusal, Pieces, CutFault, Order}
use Rattle.dw_section.proofs.{Words.{Dwarf32, Dwarf64, Input, Takes, Item, gap, entry, IsItem, item_bytes, id_width, all_bytes, Piece, piece_of, pieces, fixed_bytes, ok_is, item_at, IsStuck, Four, Cut, eq-eqb}, Stages.all_push}
use Rattle.std.proofs.lemmas.Bool.{cases_eq}
use Rattle.std.specs.{Prelude.{nat_eq, Bool, suc, take, ◌&&◌, ◌==◌, ◌*◌}, List.list_all}
use Rattle.byteorder.specs.Endian.{little_number}
use Rattle.dw_num.specs.{Input.AreBytes, declared.target.Order.TheVariants.{Little, Big}}

pub gap_bytes : (order : Order) → length_bytes order Dwarf32 0 ≡ 0 ∷ 0 ∷ 0 ∷ 0 ∷ []
gap_bytes Little = refl
gap_bytes Big = refl

-- ---- items in a row

-- what a walk knows: the items so far, and the entries among them
pub record IsWalked (target : Target) (s : List ℕ) (now : Input) (found : List Piece) : Type 0 where
  pub items : List Item
  pub each : AllByRecursion IsItem items
  pub whole : s ≡ all_bytes target.order items ++ now.bytes
  pub place : now.at ≡ length (all_bytes target.order items)
  pub same : now.target ≡ target
  pub are : found ≡ pieces target.order 0 items

all_bytes-push : (order : Order) (xs : List Item) (x : Item) → all_bytes order (xs ++ x ∷ []) ≡ all_bytes order xs ++ item_bytes order x
all_bytes-push order [] x = append-nil (item_bytes order x)
all_bytes-push order (y ∷ xs) x = rw (all_bytes-push order xs x) (sym (append_assoc (item_bytes order y) (all_bytes order xs) (item_bytes order x)))

cons_option-append : (o : Option Piece) (es fs : List Piece) → cons_option o (es ++ fs) ≡ cons_option o es ++ fs
cons_option-append None es fs = refl
cons_option-append (Some e) es fs = refl

pieces-push : (order : Order) (at : ℕ) (xs : List Item) (x : Item) → pieces order at (xs ++ x ∷ []) ≡ pieces order at xs ++ cons_option (piece_of order (at + length (all_bytes order xs)) x) []
pieces-push order at [] x = rw add-zero refl
pieces-push order at (y ∷ xs) x =
    let b = item_bytes order y in
    let e : at + length (b ++ all_bytes order xs) ≡ (at + length b) + length (all_bytes order xs) = omega (arith, length-append b (all_bytes order xs)) in
    rw (e, pieces-push order (at + length b) xs x) (cons_option-append (piece_of order at y) (pieces order (at + length b) xs) (cons_option (piece_of order ((at + length b) + length (all_bytes order xs)) x) []))

pub walked_more : (target : Target) (s : List ℕ) (old new : Input) (found : List Piece) (item : Item) → IsWalked target s old found → IsItem item → Takes old (item_bytes old.target.order item) new → IsWalked target s new (found ++ cons_option (piece_of old.target.order old.at item) [])
walked_more target s old new found item w is t =
    let order = target.order in
    let t' : Takes old (item_bytes order item) new = subst (λ (g : Target). Takes old (item_bytes g.order item) new) w.same t in
    let grown = all_bytes-push order w.items item in
    record {
      items = w.items ++ item ∷ [];
      each = all_push IsItem w.items item w.each is;
      whole = w.whole ∙ ap (λ (r : List ℕ). all_bytes order w.items ++ r) t'.bytes ∙ sym (append_assoc (all_bytes order w.items) (item_bytes order item) new.bytes) ∙ ap (λ (b : List ℕ). b ++ new.bytes) (sym grown);
      place = t'.at ∙ ap (λ (n : ℕ). n + length (item_bytes order item)) w.place ∙ sym (length-append (all_bytes order w.items) (item_bytes order item)) ∙ ap length (sym grown);
      same = t'.target ∙ w.same;
      are = ap (λ (g : Target). found ++ cons_option (piece_of g.order old.at item) []) w.same ∙ ap (λ (es : List Piece). es ++ cons_option (piece_of order old.at item) []) w.are ∙ ap (λ (n : ℕ). pieces order 0 w.items ++ cons_option (piece_of order n item) []) (w.place ∙ sym (zero-add _)) ∙ sym (pieces-push order 0 w.items item);
    }

-- a walk that keeps something of the pieces so far
pub record Keeps (Kept : List Piece → Type 0) (target : Target) (s : List ℕ) (now : Input) : Type 0 where
  pub parts : List Piece
  pub walked : IsWalked target s now parts
  pub kept : Kept parts

pub kept_entry : (Kept Next : List Piece → Type 0) (target : Target) (s : List ℕ) (old new : Input) (p : Placed) → Keeps Kept target s old → IsItem (item_of (Some p)) → Takes old (item_bytes old.target.order (item_of (Some p))) new → IsPlaced old (Some p)
    → ((ps : List Piece) → Kept ps → Next (ps ++ piece_in p ∷ [])) → Keeps Next target s new
kept_entry Kept Next target s old new p w is t placed next =
    record { parts = w.parts ++ piece_in p ∷ []; walked = rw (placed.0, placed.1, placed.2) (walked_more target s old new w.parts (item_of (Some p)) w.walked is t); kept = next w.parts w.kept }

pub kept_gap : (Kept : List Piece → Type 0) (target : Target) (s : List ℕ) (old new : Input) → Keeps Kept target s old → Takes old (item_bytes old.target.order gap) new → Keeps Kept target s new
kept_gap Kept target s old new w t = record { parts = w.parts; walked = rw append-nil at (walked_more target s old new w.parts gap w.walked tt t); kept = w.kept }

-- an item has bytes
pub item_some : (order : Order) (item : Item) → 4 ≤ length (item_bytes order item)
item_some order gap = omega arith
item_some order (entry Dwarf32 body) = omega (arith, length-append (length_bytes order Dwarf32 (length body)) body, length-fixed order 4 (length body))
item_some order (entry Dwarf64 body) = omega (arith, length-append (length_bytes order Dwarf64 (length body)) body, length-append (fixed_bytes order 4 0xffffffff) (fixed_bytes order 8 (length body)), length-fixed order 4 0xffffffff)

-- ---- a section has at most one cut

wide_some : (form : Form) (n : ℕ) → id_width form ≤ n → eqb n 0 ≡ false
wide_some Dwarf32 n h = ne_eqb n 0 (λ none. omega (arith, none))
wide_some Dwarf64 n h = ne_eqb n 0 (λ none. omega (arith, none))

pub item_again : (at : ℕ) (target : Target) (item : Item) (rest : List ℕ) → IsItem item
    → item_at (record { at = at; bytes = item_bytes target.order item ++ rest; target = target }) ≡ Ok (item, record { at = at + length (item_bytes target.order item); bytes = rest; target = target })
unfolding item_at
item_again at target gap rest is =
    let i : Input = record { at = at; bytes = 0 ∷ 0 ∷ 0 ∷ 0 ∷ rest; target = target } in
    rw (unit_length_only i (record { form = Dwarf32; length = 0 }) (0 ∷ 0 ∷ 0 ∷ 0 ∷ []) rest (record { bytes = sym (gap_bytes target.order); fits = omega arith }) refl) refl
item_again at target (entry form body) rest is =
    let front = length_bytes target.order form (length body) in
    let i : Input = record { at = at; bytes = (front ++ body) ++ rest; target = target } in
    let read = unit_length_only i (record { form = form; length = length body }) front (body ++ rest) (record { bytes = refl; fits = is.0 }) (append_assoc front body rest) in
    let place : at + length (front ++ body) ≡ (at + length front) + length body = omega (arith, length-append front body) in
    rw (
      read,
      wide_some form (length body) is.1,
      le-ltb (length (body ++ rest)) (length body) (omega (arith, length-append body rest)),
      le-ltb (length body) (id_width form) is.1,
      take_at body rest (length body) refl,
      drop_at body rest (length body) refl,
      place,
    ) refl

pub front_item : (order : Order) (a b : Item) (x y : List ℕ) → IsItem a → IsItem b → item_bytes order a ++ x ≡ item_bytes order b ++ y → (a ≡ b) × (x ≡ y)
front_item order a b x y h k e =
    let target : Target = record { size = Four; order = order } in
    let at : (s : List ℕ) → Result (Item × Input) Refusal = λ s. item_at (record { at = 0; bytes = s; target = target }) in
    let same = ok_is _ _ (sym (item_again 0 target a x h) ∙ ap at e ∙ item_again 0 target b y k) in
    (ap (λ (p : Item × Input). p.0) same, ap (λ (p : Item × Input). p.1.bytes) same)

-- the item at the front of what others spell is the first of these
pub left_by : (order : Order) (item : Item) (after : List ℕ) (items : List Item) → IsItem item → AllByRecursion IsItem items → item_bytes order item ++ after ≡ all_bytes order items
    → (more : List Item) × (items ≡ item ∷ more) × AllByRecursion IsItem more × (after ≡ all_bytes order more)
left_by order item after [] is h e = absurd (omega (arith, ap length e, length-append (item_bytes order item) after, item_some order item))
left_by order item after (x ∷ xs) is h e = let p = front_item order item x after (all_bytes order xs) is h.0 e in (xs, ap (λ (y : Item). y ∷ xs) (sym p.0), h.1, p.1)

pub none_by : (order : Order) (items : List Item) (bytes : List ℕ) → bytes ≡ all_bytes order items → length bytes ≤ 0 → items ≡ []
none_by order [] bytes e none = refl
none_by order (x ∷ xs) bytes e none = absurd (omega (arith, ap length e, length-append (item_bytes order x) (all_bytes order xs), item_some order x))

-- an item at the front is no fault
pub not_stuck : (target : Target) (at : ℕ) (item : Item) (rest bytes : List ℕ) (r : Refusal) → IsItem item → bytes ≡ item_bytes target.order item ++ rest → item_at (record { at = at; bytes = bytes; target = target }) ≡ Err r → ⊥
not_stuck target at item rest bytes r is e stuck =
    let bad = sym (item_again at target item rest is) ∙ rw e at stuck in cc

-- where a walk is stuck there is no cut
pub stuck_before : (target : Target) (at : ℕ) (more : List Item) (rest : List ℕ) (r : Refusal) → AllByRecursion IsItem more → rest ≡ all_bytes target.order more → 0 < length rest → item_at (record { at = at; bytes = rest; target = target }) ≡ Err r → ⊥
stuck_before target at [] rest r h e some stuck = omega (arith, ap length e)
stuck_before target at (x ∷ more) rest r h e some stuck = not_stuck target at x (all_bytes target.order more) rest r h.0 e stuck

-- no item stands at the front
abbrev Stops : Order → List ℕ → Type 0
Stops order bytes = (item : Item) (rest : List ℕ) → IsItem item → bytes ≡ item_bytes order item ++ rest → ⊥

none_stops : (order : Order) → Stops order []
none_stops order item rest is e = omega (arith, ap length e, length-append (item_bytes order item) rest, item_some order item)

stuck_stops : (target : Target) (s : List ℕ) (r : Refusal) (w : IsStuck target s r) → Stops target.order w.rest
stuck_stops target s r w item rest is e = not_stuck target _ item rest w.rest r is e w.stuck

-- two walks that go as far as there are items are one
one_walk : (order : Order) (xs ys : List Item) (x y : List ℕ) → AllByRecursion IsItem xs → AllByRecursion IsItem ys → Stops order x → Stops order y → all_bytes order xs ++ x ≡ all_bytes order ys ++ y → (xs ≡ ys) × (x ≡ y)
one_walk order [] [] x y h k s t e = (refl, e)
one_walk order [] (z ∷ ys) x y h k s t e = absurd (s z (all_bytes order ys ++ y) k.0 (e ∙ append_assoc (item_bytes order z) (all_bytes order ys) y))
one_walk order (z ∷ xs) [] x y h k s t e = absurd (t z (all_bytes order xs ++ x) h.0 (sym e ∙ append_assoc (item_bytes order z) (all_bytes order xs) x))
one_walk order (z ∷ xs) (u ∷ ys) x y h k s t e =
    let p = front_item order z u (all_bytes order xs ++ x) (all_bytes order ys ++ y) h.0 k.0 (sym (append_assoc (item_bytes order z) (all_bytes order xs) x) ∙ e ∙ append_assoc (item_bytes order u) (all_bytes order ys) y) in
    let q = one_walk order xs ys x y h.1 k.1 s t p.1 in
    (ap (λ (i : Item). i ∷ xs) p.0 ∙ ap (λ (l : List Item). u ∷ l) q.0, q.1)

pub one_cut : (order : Order) (s : List ℕ) (xs ys : List Item) → Cut order s xs → Cut order s ys → xs ≡ ys
one_cut order s xs ys p q = (one_walk order xs ys [] [] p.each q.each (none_stops order) (none_stops order) (append-nil (all_bytes order xs) ∙ sym p.whole ∙ q.whole ∙ sym (append-nil (all_bytes order ys)))).0

-- where two are stuck they are one
pub one_stuck : (target : Target) (s : List ℕ) (r q : Refusal) → IsStuck target s r → IsStuck target s q → r ≡ q
one_stuck target s r q v w =
    let same = one_walk target.order v.items w.items v.rest w.rest v.each w.each (stuck_stops target s r v) (stuck_stops target s q w) (sym v.whole ∙ w.whole) in
    let e = sym (rw (same.0, same.1) at v.stuck) ∙ w.stuck in cc

-- a section has one list of pieces
pub one_pieces : (target : Target) (s : List ℕ) (ps qs : List Piece) → Pieces target s ps → Pieces target s qs → ps ≡ qs
one_pieces target s ps qs p q = p.are ∙ ap (pieces target.order 0) (one_cut target.order s p.items q.items p.cut q.cut) ∙ sym q.are

-- a fault of the cut and pieces exclude each other
pub cut_or_pieces : (target : Target) (s : List ℕ) (r : Refusal) (ps : List Piece) → CutFault target s r → Pieces target s ps → ⊥
cut_or_pieces target s r ps (inl large) p = omega (arith, large.0, p.small)
cut_or_pieces target s r ps (inr (small, w)) p =
    let e = (one_walk target.order p.items w.items [] w.rest p.cut.each w.each (none_stops target.order) (stuck_stops target s r w) (append-nil (all_bytes target.order p.items) ∙ sym p.cut.whole ∙ w.whole)).1 in
    omega (arith, ap length e, w.some)

-- ---- fields that are all ones

-- a byte in front of a number, and one of all ones in front of another
ones_step : (a n m : ℕ) → a < 256 → eqb (a + 256 * n) (255 + 256 * m) ≡ (eqb a 255 && eqb n m)
ones_step a n m fits = elim (cases_eq a 255) [
  | inl e ↦ elim (cases_eq n m) [
    | inl f ↦ rw (e, f, eq-eqb (255 + 256 * m) (255 + 256 * m) refl, eq-eqb m m refl) refl
    | inr ne ↦ rw (e, ne_eqb n m ne) (ne_eqb (255 + 256 * n) (255 + 256 * m) (λ q. ne (omega (arith, q))))
  ]
  | inr ne ↦ rw (ne_eqb a 255 ne) (ne_eqb (a + 256 * n) (255 + 256 * m) (λ q. ne (omega (arith, q))))
]

pub four_ones : (bytes : List ℕ) → AreBytes bytes → 4 ≤ length bytes → nat_eq (little_number 4 (take 4 bytes)) 0xffffffff ≡ list_all (λ b. b == 255) (take 4 bytes)
four_ones [] h len = absurd (omega arith)
four_ones (a ∷ []) h len = absurd (omega arith)
four_ones (a ∷ b ∷ []) h len = absurd (omega arith)
four_ones (a ∷ b ∷ c ∷ []) h len = absurd (omega arith)
four_ones (a ∷ b ∷ c ∷ d ∷ rest) h len =
    ones_step a _ 0xffffff (h 0) ∙ ap (λ (r : Bool). eqb a 255 && r) (ones_step b _ 0xffff (h 1)
    ∙ ap (λ (r : Bool). eqb b 255 && r) (ones_step c _ 0xff (h 2) ∙ ap (λ (r : Bool). eqb c 255 && r) (ones_step d 0 0 (h 3))))

pub eight_ones : (bytes : List ℕ) → AreBytes bytes → 8 ≤ length bytes → nat_eq (little_number 8 (take 8 bytes)) 0xffffffffffffffff ≡ list_all (λ b. b == 255) (take 8 bytes)
eight_ones [] h len = absurd (omega arith)
eight_ones (a ∷ []) h len = absurd (omega arith)
eight_ones (a ∷ b ∷ []) h len = absurd (omega arith)
eight_ones (a ∷ b ∷ c ∷ []) h len = absurd (omega arith)
eight_ones (a ∷ b ∷ c ∷ d ∷ rest) h len =
    ones_step a _ 0xffffffffffffff (h 0) ∙ ap (λ (r : Bool). eqb a 255 && r) (ones_step b _ 0xffffffffffff (h 1)
    ∙ ap (λ (r : Bool). eqb b 255 && r) (ones_step c _ 0xffffffffff (h 2) ∙ ap (λ (r : Bool). eqb c 255 && r) (ones_step d _ 0xffffffff (h 3)
    ∙ ap (λ (r : Bool). eqb d 255 && r) (four_ones rest (λ i. h (suc (suc (suc (suc i))))) (omega arith)))))
