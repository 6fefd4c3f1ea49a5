-- What holds of a section's headers.
use Rattle.dw_section.proofs.Words.{◌≡◌, ℕ, suc, ◌+◌, ◌<◌, ◌≤◌, ◌^◌, List, [], ◌∷◌, ◌++◌, length, refl, sym, ap, subst, ◌∙◌, arith, inl, inr, get_or-append-add, AllByRecursion, AllZip, cons_option, Order, Target, Size, AreBytes}
use Rattle.dw_section.proofs.Words.{length_bytes, address_limit, byte_count, Instr, ProgramSpells, Item, gap, entry, Piece, Pieces, pieces, item_bytes, all_bytes, place_if, cie_places, Rises, Head, cie, fde, Has, Headers, CieHead, FdeHead}
use Rattle.dw_section.proofs.{Words.{head_at, cie_at_of, cie_ats, HeadsRise, FdeFits, HasBytes, InitialInstrs, factors_of, IsAmong, Four, Eight, Factors, Input}, Places.{PiecesRise, all_above, pieces_up}, Lent.HeaderLaws.pieces_rise as places_of_pieces}
use Rattle.dw_section.proofs.{Lent.FieldTable.fde_said, Lent.Index.all_in, Stages.all_of_zip}
use Rattle.dw_cfa.proofs.Lent.{Given.{one_program as one_listed}, InstrLaws.front_bytes}
pub use Rattle.dw_section.proofs.Lent.Index.{all_in}

-- ---- places rise

pub has_at : (target : Target) (places : List ℕ) (p : Piece) (h : Head) → Has target places p h → head_at h ≡ p.at
has_at target places p h (inl c) = ap head_at c.3
has_at target places p h (inr c) = ap head_at c.3

heads_up : (target : Target) (places : List ℕ) (low : ℕ) (ps : List Piece) (hs : List Head) → AllZip (Has target places) ps hs → PiecesRise low ps → HeadsRise low hs
heads_up target places low [] [] z up = tt
heads_up target places low (p ∷ ps) (h ∷ hs) z up = rw (has_at target places p h z.0) (up.0, heads_up target places (suc p.at) ps hs z.1 up.1)
heads_up target places low ps hs z up = absurd z

pub heads_rise : (target : Target) (s : List ℕ) (hs : List Head) → Headers target s hs → HeadsRise 0 hs
heads_rise target s hs p = heads_up target (cie_places p.entries) 0 p.entries hs p.each (subst (PiecesRise 0) (sym p.cut.are) (pieces_up target.order 0 p.cut.items))

-- at a place stands one entry
pub one_among : (low : ℕ) (hs : List Head) (h k : Head) → HeadsRise low hs → IsAmong h hs → IsAmong k hs → head_at h ≡ head_at k → h ≡ k
one_among low [] h k up i j e = absurd i
one_among low (x ∷ hs) h k up i j e =
    let above = all_in (λ y. suc (head_at x) ≤ head_at y) hs in
    let all = all_above head_at (suc (head_at x)) hs up.1 in
    grind (arith, up, i, j, e, above k all, above h all, one_among (suc (head_at x)) hs h k up.1)

-- ---- programs are bytes

rest_bytes : (front rest : List ℕ) → AreBytes (front ++ rest) → AreBytes rest
rest_bytes front rest h = λ k. let e = get_or-append-add front rest k 0 in omega (arith, h (length front + k))

items_bytes : (order : Order) (at : ℕ) (items : List Item) → AreBytes (all_bytes order items) → AllByRecursion (λ (p : Piece). AreBytes p.contents.bytes) (pieces order at items)
items_bytes order at [] h = tt
items_bytes order at (gap ∷ items) h = items_bytes order (at + 4) items (rest_bytes (item_bytes order gap) (all_bytes order items) h)
items_bytes order at (entry form body ∷ items) h =
    let b = item_bytes order (entry form body) in
    (rest_bytes (length_bytes order form (length body)) body (front_bytes b (all_bytes order items) h), items_bytes order (at + length b) items (rest_bytes b (all_bytes order items) h))

has_bytes : (target : Target) (places : List ℕ) (p : Piece) (h : Head) → Has target places p h → AreBytes p.contents.bytes → HasBytes h
has_bytes target places p h (inl c) b = subst HasBytes (sym c.3) (rest_bytes c.2.1.spelling c.1.bytes (subst AreBytes c.2.1.whole b))
has_bytes target places p h (inr c) b = subst HasBytes (sym c.3) (rest_bytes c.2.1.spelling c.1.bytes (subst AreBytes c.2.1.whole b))

pub pieces_bytes : (target : Target) (s : List ℕ) (ps : List Piece) → AreBytes s → Pieces target s ps → AllByRecursion (λ (p : Piece). AreBytes p.contents.bytes) ps
pieces_bytes target s ps b p = subst (AllByRecursion (λ (x : Piece). AreBytes x.contents.bytes)) (sym p.are) (items_bytes target.order 0 p.items (subst AreBytes p.cut.whole b))

pub heads_bytes : (target : Target) (s : List ℕ) (hs : List Head) → AreBytes s → Headers target s hs → AllByRecursion HasBytes hs
heads_bytes target s hs b p =
    let all = pieces_bytes target s p.entries b p.cut in
    all_of_zip (Has target (cie_places p.entries)) HasBytes p.entries hs (λ x h i has. has_bytes target (cie_places p.entries) x h has (all_in (λ (x : Piece). AreBytes x.contents.bytes) p.entries x all i)) p.each

-- ---- FDEs fit

limit_is : (size : Size) → 256 ^ byte_count size ≡ address_limit size
limit_is Four = refl
limit_is Eight = refl

pub has_fits : (target : Target) (places : List ℕ) (p : Piece) (h : Head) → Has target places p h → FdeFits target places h
has_fits target places p h (inl c) = subst (FdeFits target places) (sym c.3) tt
has_fits target places p h (inr c) =
    let said = fde_said target places p.form c.0 c.2.1.spelling c.2.1.spells in
    subst (FdeFits target places) (sym c.3) (subst (λ (n : ℕ). c.0.begin < n) (limit_is target.size) said.begin_fits, said.in_space, said.names_cie)

pub has_place : (target : Target) (places : List ℕ) (p : Piece) (h : Head) → Has target places p h → cie_at_of h ≡ place_if p.kind p.at
has_place target places p h (inl c) = rw (c.3, c.2.0) refl
has_place target places p h (inr c) = rw (c.3, c.2.0) refl

pub same_places : (target : Target) (places : List ℕ) (ps : List Piece) (hs : List Head) → AllZip (Has target places) ps hs → cie_ats hs ≡ cie_places ps
same_places target places [] [] z = refl
same_places target places (p ∷ ps) (h ∷ hs) z = rw (has_place target places p h z.0) (ap (λ (l : List ℕ). cons_option (place_if p.kind p.at) l) (same_places target places ps hs z.1))
same_places target places ps hs z = absurd z

pub heads_fit : (target : Target) (s : List ℕ) (hs : List Head) → Headers target s hs → AllByRecursion (FdeFits target (cie_ats hs)) hs
heads_fit target s hs p =
    let places = cie_places p.entries in
    subst (λ (l : List ℕ). AllByRecursion (FdeFits target l) hs) (sym (same_places target places p.entries hs p.each))
    (all_of_zip (Has target places) (FdeFits target places) p.entries hs (λ x h i has. has_fits target places x h has) p.each)

pub ats_rise : (target : Target) (s : List ℕ) (hs : List Head) → Headers target s hs → Rises 0 (cie_ats hs)
ats_rise target s hs p = subst (Rises 0) (sym (same_places target (cie_places p.entries) p.entries hs p.each)) (places_of_pieces target s p.entries p.cut)

-- ---- the CIE of a place is one

-- a program is one list of instructions
pub one_program : (f : Factors) (t : Target) (bytes : List ℕ) (xs ys : List Instr) → AreBytes bytes → ProgramSpells t f xs bytes → ProgramSpells t f ys bytes → xs ≡ ys
one_program f t bytes xs ys h p q = let i : Input = record { at = 0; bytes = bytes; target = t } in one_listed f i xs ys h p q

pub record SameBegin (c d : CieHead) (initial another : List Instr) : Type 0 where
  pub head : c ≡ d
  pub factors : factors_of c ≡ factors_of d
  pub instrs : initial ≡ another

-- what a header says of a CIE, and another's where it is none
abbrev pub cie_or : CieHead → Head → CieHead
cie_or other (cie c) = c
cie_or other (fde f) = other

abbrev pub fde_or : FdeHead → Head → FdeHead
fde_or other (cie c) = other
fde_or other (fde f) = f

pub one_begin : (target : Target) (hs : List Head) (place : ℕ) (c d : CieHead) (initial another : List Instr) → HeadsRise 0 hs → AllByRecursion HasBytes hs
    → InitialInstrs target hs place c initial → InitialInstrs target hs place d another → SameBegin c d initial another
one_begin target hs place c d initial another up bytes v w =
    let one = one_among 0 hs _ _ up v.among w.among (v.stands ∙ sym w.stands) in
    let head : c ≡ d = ap (cie_or c) one in
    let is_bytes = all_in HasBytes hs _ bytes w.among in
    let spelled : ProgramSpells target (factors_of d) initial d.program.bytes = subst (λ (x : CieHead). ProgramSpells target (factors_of x) initial x.program.bytes) head v.spelled in
    record { head = head; factors = ap factors_of head; instrs = one_program (factors_of d) target d.program.bytes initial another is_bytes spelled w.spelled }
