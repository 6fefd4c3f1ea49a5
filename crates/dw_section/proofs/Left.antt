-- A walk over a section that has a cut gives its pieces, and one over a section that has headers gives these.
use Rattle.dw_section.specs.Inner.Left.{Stays}
use Rattle.dw_section.proofs.Words.{◌≡◌, ℕ, ◌<◌, ◌≤◌, List, [], ◌∷◌, length, refl, sym, ap, subst, ◌∙◌, arith, length-append, AllZip, cons_option, Order, Target, Input, Takes, Item}
use Rattle.dw_section.proofs.{Words.{gap, IsItem, item_bytes, Piece, piece_of, pieces, Pieces, cie_places, Head, Has, Headers, PiecesLeft, HeadsLeft}, Items.{item_some, left_by, none_by}}

pub left_item : (old new : Input) (item : Item) (ps : List Piece) → IsItem item → Takes old (item_bytes old.target.order item) new → PiecesLeft old ps
    → (rest : List Piece) × (ps ≡ cons_option (piece_of old.target.order old.at item) rest) × PiecesLeft new rest
left_item old new item ps is t w =
    let order = old.target.order in
    let q = left_by order item new.bytes w.items is w.cut.each (sym t.bytes ∙ w.cut.whole) in (
      pieces order new.at q.0,
      w.are ∙ ap (pieces order old.at) q.1 ∙ ap (λ (n : ℕ). cons_option (piece_of order old.at item) (pieces order n q.0)) (sym t.at),
      record { items = q.0; cut = rw t.target (record { each = q.2; whole = q.3 }); are = rw t.target refl },
    )

pub left_gap : (old new : Input) (ps : List Piece) → Takes old (item_bytes old.target.order gap) new → PiecesLeft old ps → PiecesLeft new ps
left_gap old new ps t w = let q = left_item old new gap ps tt t w in subst (PiecesLeft new) (sym q.1) q.2

pub left_none : (i : Input) (ps : List Piece) → length i.bytes ≤ 0 → PiecesLeft i ps → ps ≡ []
left_none i ps none w = w.are ∙ ap (pieces i.target.order i.at) (none_by i.target.order w.items i.bytes w.cut.whole none)

-- ---- a step stays in the section

pub takes_stays : (old new : Input) (b : List ℕ) → Takes old b new → Stays old new
takes_stays old new b t = record { target = t.target; end = omega (arith, t.at, ap length t.bytes, length-append b new.bytes) }

pub stays_then : (a b c : Input) → Stays a b → Stays b c → Stays a c
stays_then a b c v w = record { target = w.target ∙ v.target; end = w.end ∙ v.end }

pub shorter_by : (old new : Input) (order : Order) (item : Item) → Takes old (item_bytes order item) new → length new.bytes < length old.bytes
shorter_by old new order item t = omega (arith, ap length t.bytes, length-append (item_bytes order item) new.bytes, item_some order item)

-- ---- the start

pub left_all : (target : Target) (s : List ℕ) (ps : List Piece) → Pieces target s ps → PiecesLeft (record { at = 0; bytes = s; target = target }) ps
left_all target s ps p = record { items = p.items; cut = p.cut; are = p.are }

-- ---- headers

pub heads_none : (target : Target) (places : List ℕ) (ps : List Piece) (hs : List Head) → ps ≡ [] → AllZip (Has target places) ps hs → hs ≡ []
heads_none target places ps [] e z = refl
heads_none target places ps (h ∷ hs) e z = absurd (rw e at z)

pub heads_some : (target : Target) (places : List ℕ) (p : Piece) (ps rest : List Piece) (hs : List Head) → ps ≡ p ∷ rest → AllZip (Has target places) ps hs
    → (h : Head) × (more : List Head) × (hs ≡ h ∷ more) × Has target places p h × AllZip (Has target places) rest more
heads_some target places p ps rest [] e z = absurd (rw e at z)
heads_some target places p ps rest (h ∷ hs) e z = let y = rw e at z in (h, hs, refl, y.0, y.1)

-- the next piece has the next header
pub heads_next : (target : Target) (places : List ℕ) (old new : Input) (p : Piece) (hs : List Head) → old.target ≡ target → (w : HeadsLeft places old hs) → (rest : List Piece) × (w.parts ≡ p ∷ rest) × PiecesLeft new rest → Stays old new
    → (h : Head) × (more : List Head) × (hs ≡ h ∷ more) × Has target places p h × HeadsLeft places new more
heads_next target places old new p hs is w q on =
    let s = heads_some old.target places p w.parts q.0 hs q.1 w.each in
    (s.0, s.1, s.2, subst (λ (t : Target). Has t places p s.0) is s.3, record { parts = q.0; left = q.2; each = subst (λ (t : Target). AllZip (Has t places) q.0 s.1) (sym on.target) s.4 })

pub headers_so : (target : Target) (s : List ℕ) (ps : List Piece) (places : List ℕ) (hs : List Head) → Pieces target s ps → places ≡ cie_places ps → AllZip (Has target places) ps hs → Headers target s hs
headers_so target s ps places hs cut e z = record { entries = ps; cut = cut; each = subst (λ (l : List ℕ). AllZip (Has target l) ps hs) e z }
