-- Entries that stand at their places in bytes.
use Rattle.dw_section.proofs.Words.{Placed, IsPlaced, item_of, piece_in, ◌≡◌, ℕ, ◌+◌, ◌-◌, ◌≤◌, true, List, [], ◌∷◌, ◌++◌, length, take, drop, Some, Ok, Err, refl, sym, ap, subst, ◌∙◌, append_assoc, arith, inl, inr, AllByRecursion, Order}
use Rattle.dw_section.proofs.Words.{Target, Refusal, Input, Takes, Span, length_bytes, Item, gap, entry, IsItem, Piece, item_bytes, piece_of, pieces, all_bytes, CieFields, FdeFields, FoundFde, item_at, address_limit, is_among, CieHead}
use Rattle.dw_section.proofs.Words.{FdeHead, Head, Has, Headers, IsCie, IsFde, cie, fde, cie_head, cie_at, fde_at, IsFound, Returns, Range, cie_places, IsAmong, StandsIn, FoundStands, StandsAt, Pieces, eq-eqb, eqb_tells, length-append}
use Rattle.dw_section.proofs.Words.{drop_at, length-drop, length-take-le, take-append-drop, take_all, FdeStands, entry_head, entry_in, initial_head, initial_in, some_is, ok_is, Read, ◌>>=◌, fde_fields, fields_at, contents_of, fde_of_piece}
use Rattle.dw_section.proofs.{Lent.{FieldTable.fde_said, HeaderLaws.{has_one, cie_at_again, fde_at_again}, Heads.{cie_or, fde_or, has_at}, Index.zip_right}, Items.{front_item, item_again}}
use Rattle.dw_section.specs.Inner.{Fields.behind_pointer, PieceHeader.PointsBehind}
use Rattle.dw_section.specs.declared.entry.Kind.TheVariants as kind

-- ---- the entries of a section stand at their places

piece_stands : (order : Order) (front : List ℕ) (items : List Item) (p : Piece) → AllByRecursion IsItem items → IsAmong p (pieces order (length front) items) → StandsIn order (front ++ all_bytes order items) p
piece_stands order front [] p each i = absurd i
piece_stands order front (gap ∷ items) p each i = rw (← append_assoc front (item_bytes order gap) (all_bytes order items)) (piece_stands order (front ++ item_bytes order gap) items p each.1 (rw length-append i))
piece_stands order front (entry form body ∷ items) p each (inl is) = record { item = entry form body; front = front; rest = all_bytes order items; is = each.0; whole = refl; piece = ap Some (sym is) }
piece_stands order front (entry form body ∷ items) p each (inr i) =
    rw (← append_assoc front (item_bytes order (entry form body)) (all_bytes order items)) (piece_stands order (front ++ item_bytes order (entry form body)) items p each.1 (rw (length-append front) i))

pub stands_in : (target : Target) (s : List ℕ) (ps : List Piece) (p : Piece) → Pieces target s ps → IsAmong p ps → StandsIn target.order s p
stands_in target s ps p cut i = subst (λ (b : List ℕ). StandsIn target.order b p) (sym cut.cut.whole) (piece_stands target.order [] cut.items p cut.cut.each (subst (IsAmong p) cut.are i))

pub stands_of : (target : Target) (s : List ℕ) (hs : List Head) (h : Head) (p : Headers target s hs) → IsAmong h hs → (piece : Piece) × StandsIn target.order s piece × Has target (cie_places p.entries) piece h
stands_of target s hs h p i = let z = zip_right (Has target (cie_places p.entries)) p.entries hs h p.each i in (z.0, stands_in target s p.entries z.0 p.cut z.1, z.2)

-- ---- what stands at a place is one

-- where its piece is, and where it ends
pub piece_ends : (order : Order) (at : ℕ) (item : Item) (p : Piece) → piece_of order at item ≡ Some p → (p.at ≡ at) × (p.contents.at + length p.contents.bytes ≡ at + length (item_bytes order item))
piece_ends order at gap p e = absurd cc
piece_ends order at (entry form body) p e =
    subst (λ (q : Piece). (q.at ≡ at) × (q.contents.at + length q.contents.bytes ≡ at + length (item_bytes order (entry form body)))) (some_is _ p e) (refl, omega (arith, length-append (length_bytes order form (length body)) body))

pub left_behind : (order : Order) (s : List ℕ) (p : Piece) (w : StandsIn order s p) → drop p.at s ≡ item_bytes order w.item ++ w.rest
left_behind order s p w = rw (w.whole, (piece_ends order (length w.front) w.item p w.piece).0) (drop_at w.front (item_bytes order w.item ++ w.rest) (length w.front) refl)

pub one_piece : (order : Order) (s : List ℕ) (p q : Piece) → StandsIn order s p → StandsIn order s q → p.at ≡ q.at → p ≡ q
one_piece order s p q v w e =
    let same = front_item order v.item w.item v.rest w.rest v.is w.is (sym (left_behind order s p v) ∙ ap (λ (n : ℕ). drop n s) e ∙ left_behind order s q w) in
    let places : length v.front ≡ length w.front = sym (piece_ends order _ v.item p v.piece).0 ∙ e ∙ (piece_ends order _ w.item q w.piece).0 in
    some_is p q (sym v.piece ∙ ap (λ (n : ℕ). piece_of order n v.item) places ∙ ap (piece_of order (length w.front)) same.0 ∙ w.piece)

-- ---- reading where an entry stands

pub never_stuck : (target : Target) (s : List ℕ) (p : Piece) (at : ℕ) (i : Input) (r : Refusal) → i ≡ record { at = at; bytes = drop at s; target = target } → item_at i ≡ Err r → StandsIn target.order s p → p.at ≡ at → ⊥
never_stuck target s p at i r is stuck w e = let bad = sym (item_again p.at target w.item w.rest w.is) ∙ rw (is, ← e, left_behind target.order s p w) at stuck in cc

pub never_gap : (target : Target) (s : List ℕ) (p : Piece) (at : ℕ) (i new : Input) → i ≡ record { at = at; bytes = drop at s; target = target } → item_at i ≡ Ok (gap, new) → StandsIn target.order s p → p.at ≡ at → ⊥
never_gap target s p at i new is read w e =
    let again = sym (item_again p.at target w.item w.rest w.is) ∙ rw (is, ← e, left_behind target.order s p w) at read in
    let same = ap (λ (x : Item × Input). x.0) (ok_is _ _ again) in
    let none = sym (ap (piece_of target.order (length w.front)) same) ∙ w.piece in absurd cc

pub stands_here : (target : Target) (s : List ℕ) (at : ℕ) (i new : Input) (p : Placed) → i ≡ record { at = at; bytes = drop at s; target = target } → at ≤ length s
    → IsItem (item_of (Some p)) → Takes i (item_bytes i.target.order (item_of (Some p))) new → IsPlaced i (Some p) → StandsIn target.order s (piece_in p)
stands_here target s at i new p is inside item takes placed =
    let len = length-take-le at s inside in
    let t = rw is at takes.bytes in
    record {
      item = item_of (Some p);
      front = take at s;
      rest = new.bytes;
      is = item;
      whole = sym (take-append-drop at s) ∙ ap (λ (l : List ℕ). take at s ++ l) t;
      piece = rw (placed.0, placed.1, placed.2, is, len) refl;
    }

-- ---- an FDE that stands, and its CIE

pub fde_from : (target : Target) (places : List ℕ) (p : Piece) (h : FdeHead) → Has target places p (fde h)
    → (f : FdeFields) × (own : Span) × IsFde target places p f own × (h ≡ record { at = p.at; form = p.form; cie_at = f.cie_at; begin = f.begin; range = f.range; program = own })
fde_from target places p h (inl c) = let a = c.3 in absurd cc
fde_from target places p h (inr c) = (c.0, c.1, c.2, cc)

pub cie_from : (target : Target) (places : List ℕ) (p : Piece) (h : CieHead) → Has target places p (cie h) → (f : CieFields) × (own : Span) × IsCie target p f own × (cie h ≡ cie_head p f own)
cie_from target places p h (inl c) = (c.0, c.1, c.2, c.3)
cie_from target places p h (inr c) = let a = c.3 in absurd cc

-- the CIE that it names stands where its pointer leads
pub named_of : (target : Target) (s : List ℕ) (at : ℕ) (p : Piece) (w : StandsAt target s at) → (p.at ≡ at) × StandsIn target.order s p → (pointer : ℕ) → ((places : List ℕ) (h : FdeHead) → Has target places p (fde h) → pointer ≡ h.cie_at)
    → (w.2.named_piece.at ≡ pointer) × (w.2.named_piece.kind ≡ kind.Cie) × Has target (pointer ∷ []) p (fde w.0)
named_of target s at p w stands pointer only =
    let same = one_piece target.order s w.2.piece p w.2.stands stands.1 (sym (has_at target (w.0.cie_at ∷ []) w.2.piece (fde w.0) w.2.own_is) ∙ w.3 ∙ sym stands.0) in
    let own = subst (λ (x : Piece). Has target (w.0.cie_at ∷ []) x (fde w.0)) same w.2.own_is in
    let is = only (w.0.cie_at ∷ []) w.0 own in (
      sym (has_at target [] w.2.named_piece (cie w.1) w.2.named_is) ∙ sym w.2.names ∙ sym is,
      (cie_from target [] w.2.named_piece w.1 w.2.named_is).2.0,
      subst (λ (n : ℕ). Has target (n ∷ []) p (fde w.0)) (sym is) own,
    )

pub fde_never : (target : Target) (places : List ℕ) (p : Piece) (h : FdeHead) (r : Refusal) → Has target places p (fde h) → fde_at target places p ≡ Err r → ⊥
fde_never target places p h r has stuck = let q = fde_from target places p h has in let a = sym (fde_at_again target places p q.0 q.1 q.2) ∙ stuck in cc

pub cie_never : (target : Target) (p : Piece) (h : CieHead) (r : Refusal) → Has target [] p (cie h) → cie_at target p ≡ Err r → ⊥
cie_never target p h r has stuck = let q = cie_from target [] p h has in let a = sym (cie_at_again target p q.0 q.1 q.2) ∙ stuck in cc

among_one : (n c : ℕ) → is_among n (c ∷ []) ≡ true → n ≡ c
among_one n c h = elim (eqb_tells c n) [ inl is ↦ sym is.1 | inr not ↦ (let e = not.0 in let bad = rw e at h in absurd cc) ]

pub stands_joined : (target : Target) (s : List ℕ) (own named : Piece) (pointer : ℕ) (e : FoundFde) → StandsIn target.order s own → StandsIn target.order s named → named.at ≡ pointer
    → Has target (pointer ∷ []) own (entry_in e.own) → Has target [] named (initial_in e.cie) → (e.own.at ≡ own.at) × FoundStands target s e
stands_joined target s own named pointer e own-stands named-stands at has named-has =
    let fields = fde_from target (pointer ∷ []) own (entry_head e.own) has in
    let names : e.own.cie_at ≡ pointer = ap (λ (x : FdeHead). x.cie_at) fields.3 ∙ among_one fields.0.cie_at pointer (fde_said target (pointer ∷ []) own.form fields.0 fields.2.1.spelling fields.2.1.spells).names_cie in (
      has_at target (pointer ∷ []) own (entry_in e.own) has,
      record {
        piece = own;
        named_piece = named;
        stands = own-stands;
        named_stands = named-stands;
        own_is = subst (λ (n : ℕ). Has target (n ∷ []) own (entry_in e.own)) (sym names) has;
        named_is = named-has;
        names = names ∙ sym at ∙ sym (has_at target [] named (initial_in e.cie) named-has);
      },
    )

-- its addresses lie in the address space
pub stands_in_space : (target : Target) (s : List ℕ) (e : FoundFde) → FoundStands target s e → e.own.begin + e.own.range ≤ address_limit target.size
stands_in_space target s e w =
    let q = fde_from target (e.own.cie_at ∷ []) w.piece (entry_head e.own) w.own_is in
    let said = fde_said target (e.own.cie_at ∷ []) w.piece.form q.0 q.2.1.spelling q.2.1.spells in
    omega (arith, said.in_space, ap (λ (x : FdeHead). x.begin) q.3, ap (λ (x : FdeHead). x.range) q.3)

-- a slice from a place on
pub rest_is : (i : Input) (target : Target) (s : List ℕ) (at : ℕ) → at ≤ length s → i ≡ record { at = at; bytes = take (length s - at) (drop at s); target = target } → i ≡ record { at = at; bytes = drop at s; target = target }
rest_is i target s at inside is = rw (← take_all (length s - at) (drop at s) (omega (arith, length-drop at s, inside))) is

-- ---- of a section the FDE that stands is the one that is listed

-- what is the same of both
pub record IsListed (hs : List Head) (a : Range) (register : ℕ) (e : FoundFde) : Type 0 where
  pub found : IsFound hs e
  pub begin : e.own.begin ≡ a.begin
  pub range : e.own.range ≡ a.range
  pub register_is : e.cie.return_register ≡ register

-- ranges and pointers do not depend on where CIEs stand, as long as one stands where the pointer says
pub among_first : (n : ℕ) (ns : List ℕ) → is_among n (n ∷ ns) ≡ true
among_first n ns = rw (eq-eqb n n refl) refl

-- where one stands at the place that an FDE names, the rest of its fields is read behind that place
pub rest_read : (target : Target) (places : List ℕ) (p : Piece) (at : ℕ) (j : Input) (r : Read FdeFields) → PointsBehind target p at j → is_among at places ≡ true → fields_at (behind_pointer j.target.size at) j ≡ r
    → fields_at (fde_fields target.size places p.form) (contents_of target p) ≡ r
rest_read target places p at j r points among e = rw (points.0, among, sym points.1) e

pub rest_stuck : (target : Target) (places : List ℕ) (p : Piece) (at : ℕ) (j : Input) (r : Refusal) → PointsBehind target p at j → is_among at places ≡ true → fields_at (behind_pointer j.target.size at) j ≡ Err r → fde_at target places p ≡ Err r
unfolding fde_at
rest_stuck target places p at j r points among e = ap (λ (read : Read FdeFields). read >>= fde_of_piece p) (rest_read target places p at j (Err r) points among e)

among_next : (n c : ℕ) (ns : List ℕ) → is_among n ns ≡ true → is_among n (c ∷ ns) ≡ true
among_next n c ns h = elim (eqb_tells c n) [ inl is ↦ rw (is.0) refl | inr not ↦ rw (not.0) h ]

-- that of an FDE is the same where one stands at the place that it names
pub fde_anywhere : (target : Target) (places others : List ℕ) (p : Piece) (h : FdeHead) → Has target places p (fde h) → is_among h.cie_at others ≡ true → Has target others p (fde h)
fde_anywhere target places others p h has among =
    let q = fde_from target places p h has in
    let is = q.2.1 in
    let v = is.spells in
    let pointer : h.cie_at ≡ v.0 = ap (λ (x : FdeHead). x.cie_at) q.3 ∙ ap (λ (x : FdeFields). x.cie_at) v.2.second.2.second.2.second.0 in
    let there : is_among v.0 others ≡ true = rw pointer at among in
    inr (q.0, q.1, (q.2.0, record { spelling = is.spelling; spells = (v.0, rw there refl, v.2); whole = is.whole; place = is.place }), ap fde q.3)

-- the headers of one FDE, where CIEs are said to stand at other places
pub same_fde : (target : Target) (places others : List ℕ) (p : Piece) (g h : FdeHead) → Has target places p (fde g) → Has target others p (fde h) → g ≡ h
same_fde target places others p g h gs hs =
    let both = g.cie_at ∷ h.cie_at ∷ [] in
    let next = among_next h.cie_at g.cie_at (h.cie_at ∷ []) (among_first h.cie_at []) in
    ap (fde_or g) (has_one target both p (fde g) (fde h) (fde_anywhere target places both p g gs (among_first g.cie_at (h.cie_at ∷ []))) (fde_anywhere target others both p h hs next))

-- at a place stands one
pub one_stands : (target : Target) (s : List ℕ) (own other : FdeHead) (named another : CieHead) → FdeStands target s own named → FdeStands target s other another → own.at ≡ other.at → (own ≡ other) × (named ≡ another)
one_stands target s own other named another v w at =
    let own-at = sym (has_at target (own.cie_at ∷ []) v.piece (fde own) v.own_is) ∙ at ∙ has_at target (other.cie_at ∷ []) w.piece (fde other) w.own_is in
    let own-same = one_piece target.order s v.piece w.piece v.stands w.stands own-at in
    let one = same_fde target (own.cie_at ∷ []) (other.cie_at ∷ []) w.piece own other (rw own-same at v.own_is) w.own_is in
    let named-at = sym (has_at target [] v.named_piece (cie named) v.named_is) ∙ sym v.names ∙ ap (λ (x : FdeHead). x.cie_at) one ∙ w.names ∙ has_at target [] w.named_piece (cie another) w.named_is in
    let named-same = one_piece target.order s v.named_piece w.named_piece v.named_stands w.named_stands named-at in
    (one, ap (cie_or named) (has_one target [] w.named_piece (cie named) (cie another) (rw named-same at v.named_is) w.named_is))

-- an entry of the list stands at its place
pub own_stands : (target : Target) (s : List ℕ) (hs : List Head) (a : Range) (register : ℕ) (p : Headers target s hs) (r : Returns hs a register)
    → (piece : Piece) × StandsIn target.order s piece × Has target (cie_places p.entries) piece (fde r.own) × (piece.at ≡ a.at)
own_stands target s hs a register p r =
    let w = stands_of target s hs (fde r.own) p r.own_among in
    (w.0, w.1, w.2, sym (has_at target (cie_places p.entries) w.0 (fde r.own) w.2) ∙ ap (λ (x : Range). x.at) r.covers)

pub stands_listed : (target : Target) (s : List ℕ) (hs : List Head) (a : Range) (register : ℕ) → Headers target s hs → Returns hs a register → StandsAt target s a.at
stands_listed target s hs a register p r =
    let places = cie_places p.entries in
    let own = own_stands target s hs a register p r in
    let named = stands_of target s hs (cie r.named) p r.named_among in (
      r.own,
      r.named,
      record {
        piece = own.0;
        named_piece = named.0;
        stands = own.1;
        named_stands = named.1;
        own_is = fde_anywhere target places (r.own.cie_at ∷ []) own.0 r.own own.2 (among_first r.own.cie_at []);
        named_is = inl (cie_from target places named.0 r.named named.2);
        names = r.names;
      },
      ap (λ (x : Range). x.at) r.covers,
    )

pub listed_stands : (target : Target) (s : List ℕ) (hs : List Head) (a : Range) (register : ℕ) (e : FoundFde) → Headers target s hs → Returns hs a register → FoundStands target s e → e.own.at ≡ a.at → IsListed hs a register e
unfolding stands_listed
listed_stands target s hs a register e p r w at =
    let there = stands_listed target s hs a register p r in
    let one = one_stands target s (entry_head e.own) r.own (initial_head e.cie) r.named w there.2 (at ∙ sym there.3) in
    record {
      found = record { own = rw (sym one.0) at r.own_among; named = rw (sym one.1) at r.named_among; names = w.names };
      begin = ap (λ (x : FdeHead). x.begin) one.0 ∙ ap (λ (x : Range). x.begin) r.covers;
      range = ap (λ (x : FdeHead). x.range) one.0 ∙ ap (λ (x : Range). x.range) r.covers;
      register_is = ap (λ (x : CieHead). x.return_register) one.1 ∙ sym r.is;
    }
