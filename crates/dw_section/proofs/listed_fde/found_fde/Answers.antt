use Rattle.dw_section.proofs.Words.{◌≡◌, ◌∙◌, ◌<◌, ℕ, List, length, get_or, map, rules, sym, ap, subst, arith, nat_lt, IsPartitionPoint-from_clause, IsPartitionedBy-ltb, FdeHead, Head, Headers, IsRanged, [], ◌∷◌, entry_head, Has, fde, FdeFits, place_of, piece_in}
use Rattle.dw_section.proofs.{Words.{AllByRecursion, Range, Rises, cie_places, is_among, true, Initial, IsAmong, Piece, Returns, StandsIn, Target, initial_in}, KeptCies.{all_among, places_among}, Lent.{Heads.{all_in, ats_rise, heads_fit}, Judged.{all_get, found_initial, initials_ascend}}, StandLaws.{among_first, fde_anywhere, fde_from, fde_never, own_stands, same_fde}}
use Rattle.dw_section.proofs.listed_fde.found_fde.Goals.{After-partition_point-named, After-pointer_of-pointer, In-Ok-read_behind}
use Rattle.dw_section.proofs.listed_fde.found_fde.Goals as goal

-- what is read at its place is the entry of the list
own_here : (target : Target) (s : List ℕ) (hs : List Head) (a : Range) (register : ℕ) (p : Headers target s hs) (r : Returns hs a register) (at : ℕ) → at ≡ a.at
    → (piece : Piece) → ((q : Piece) → StandsIn target.order s q → q.at ≡ at → piece ≡ q) → Has target (cie_places p.entries) piece (fde r.own)
own_here target s hs a register p r at is piece only = let w = own_stands target s hs a register p r in rw (only w.0 w.1 (w.3 ∙ sym is)) w.2

-- the CIE that it names is found
found : (c : After-partition_point-named) → (c.partition_point-named.result < length c.args.initials.now) × ((d : Initial) → (get_or c.args.initials.now c.partition_point-named.result d).at ≡ c.pointer_of-pointer.result.0)
found c =
    let q = c.requires.headers in
    let xs = c.args.initials.now in
    let place = c.pointer_of-pointer.result.0 in
    let i = c.partition_point-named.result in
    let so : Rises 0 (map place_of xs) × AllByRecursion (FdeFits c.args.target (map place_of xs)) q.0 =
    rw (places_among q.0 xs q.2) (ats_rise c.args.target c.args.bytes.now q.0 q.1, heads_fit c.args.target c.args.bytes.now q.0 q.1) in
    let pointer = c.pointer_of-pointer.ensures.only (cie_places q.1.entries) q.3.own (own_here c.args.target c.args.bytes.now q.0 _ _ q.1 q.3 c.from-at.result c.from-at.ensures (piece_in c.in-Some.own) (λ x w e. rw c.in-Some.is at (c.in-Ok.ensures.only x w e))) in
    let among : is_among place (map place_of xs) ≡ true = rw pointer (all_in (FdeFits c.args.target (map place_of xs)) q.0 (fde q.3.own) so.1 q.3.own_among).2 in
    let point = IsPartitionPoint-from_clause (λ (x : Initial). nat_lt x.at place) xs i c.partition_point-named.ensures.partitioned (IsPartitionedBy-ltb place_of xs place (initials_ascend 0 xs so.0)) (λ a r f' k. search rules) in
    found_initial place xs i so.0 among (λ k d lt. point.0 k d (omega arith) lt) (λ k d le lt. point.1 k d le lt)

pub unreachable-requires : goal.unreachable-requires
unreachable-requires c =
    let q = c.requires.headers in
    let w = own_stands c.args.target c.args.bytes.now q.0 _ _ q.1 q.3 in
    absurd (c.in_default.ensures.only w.0 w.1 (w.3 ∙ sym c.from-at.ensures))

pub unreachable-requires-in_default-piece : goal.unreachable-requires-in_default-piece
unreachable-requires-in_default-piece c =
    let q = c.requires.headers in
    let w = own_stands c.args.target c.args.bytes.now q.0 _ _ q.1 q.3 in
    absurd (rw c.in_default-piece.is at (c.in-Ok.ensures.only w.0 w.1 (w.3 ∙ sym c.from-at.ensures)))

pub bounds-initials-named : goal.bounds-initials-named
bounds-initials-named c = (found (goal.at.bounds-initials-named c).After-partition_point-named).0

-- the FDE of the list is read behind its pointer
has_own : (c : After-pointer_of-pointer) → Has c.args.target (cie_places c.requires.headers.1.entries) (piece_in c.in-Some.own) (fde c.requires.headers.3.own)
has_own c = let q = c.requires.headers in own_here c.args.target c.args.bytes.now q.0 _ _ q.1 q.3 c.from-at.result c.from-at.ensures (piece_in c.in-Some.own) (λ x w e. rw c.in-Some.is at (c.in-Ok.ensures.only x w e))

pub read_behind-requires-clause-kind : goal.read_behind-requires-clause-kind
read_behind-requires-clause-kind c = let q = c.requires.headers in (fde_from c.args.target (cie_places q.1.entries) (piece_in c.in-Some.own) q.3.own (has_own (goal.at.read_behind-requires-clause-kind c).After-pointer_of-pointer)).2.0

pub unreachable-requires-in_default-read_behind : goal.unreachable-requires-in_default-read_behind
unreachable-requires-in_default-read_behind c =
    let q = c.requires.headers in
    let p = c.pointer_of-pointer in
    let has = has_own (goal.at.unreachable-requires-in_default-read_behind c).After-pointer_of-pointer in
    let among : is_among q.3.own.cie_at (p.result.0 ∷ []) ≡ true = rw (p.ensures.only _ q.3.own has) (among_first q.3.own.cie_at []) in
    let again = fde_anywhere c.args.target _ (p.result.0 ∷ []) (piece_in c.in-Some.own) q.3.own has among in
    fde_never c.args.target (p.result.0 ∷ []) (piece_in c.in-Some.own) q.3.own _ again (c.in_default-read_behind.ensures.stuck (p.result.0 ∷ []) (among_first p.result.0 []))

has_own_of : (c : In-Ok-read_behind) → (hs : List Head) → (headers : Headers c.args.target c.args.bytes.now hs) → (r : IsRanged hs c.args.fde.now) → Has c.args.target (cie_places headers.entries) (piece_in c.in-Some.own) (fde r.own)
has_own_of c hs headers r = own_here c.args.target c.args.bytes.now hs _ _ headers r c.from-at.result c.from-at.ensures (piece_in c.in-Some.own) (λ x w e. rw c.in-Some.is at (c.in-Ok.ensures.only x w e))

-- and is its header
header_is : (c : In-Ok-read_behind) → (hs : List Head) → (headers : Headers c.args.target c.args.bytes.now hs) → (r : IsRanged hs c.args.fde.now) → entry_head c.in-Ok-read_behind.header ≡ r.own
header_is c hs headers r =
    let p = c.pointer_of-pointer in
    same_fde c.args.target (p.result.0 ∷ []) (cie_places headers.entries) (piece_in c.in-Some.own) (entry_head c.in-Ok-read_behind.header) r.own (c.in-Ok-read_behind.ensures.found (p.result.0 ∷ []) (among_first p.result.0 [])) (has_own_of c hs headers r)

pub returns-clause-at : goal.returns-clause-at
returns-clause-at c = let q = c.requires.headers in ap (λ (h : FdeHead). h.at) (header_is (goal.at.returns-clause-at c).In-Ok-read_behind q.0 q.1 q.3) ∙ ap (λ (a : Range). a.at) q.3.covers

pub returns-clause-begin : goal.returns-clause-begin
returns-clause-begin c = let q = c.requires.headers in ap (λ (h : FdeHead). h.begin) (header_is (goal.at.returns-clause-begin c).In-Ok-read_behind q.0 q.1 q.3) ∙ ap (λ (a : Range). a.begin) q.3.covers

pub returns-clause-range : goal.returns-clause-range
returns-clause-range c = let q = c.requires.headers in ap (λ (h : FdeHead). h.range) (header_is (goal.at.returns-clause-range c).In-Ok-read_behind q.0 q.1 q.3) ∙ ap (λ (a : Range). a.range) q.3.covers

-- what is read at the place is the header of the list's entry
pub returns-clause-is : goal.returns-clause-is
returns-clause-is c = λ hs headers initials r.
    let head = header_is (goal.at.returns-clause-is c).In-Ok-read_behind hs headers r in
    let pointer = ap (λ (h : FdeHead). h.cie_at) head ∙ sym (c.pointer_of-pointer.ensures.only _ r.own (has_own_of (goal.at.returns-clause-is c).In-Ok-read_behind hs headers r)) in
    let here = found (goal.at.returns-clause-is c).After-partition_point-named in
    let x = c.index-initials-named in
    record {
      own = rw (sym head) at r.own_among;
      named = subst (λ (y : Initial). IsAmong (initial_in y) hs) (sym x.is) (all_get (λ (y : Initial). IsAmong (initial_in y) hs) c.args.initials.now c.partition_point-named.result x.result (all_among hs c.args.initials.now initials) here.0);
      names = pointer ∙ sym (ap (λ (y : Initial). y.at) x.is ∙ here.1 x.result);
    }
