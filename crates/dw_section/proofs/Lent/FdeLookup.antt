-- What a table lists, and where an address is found in it.
use Rattle.dw_section.proofs.Words.{◌≡◌, ℕ, zero, suc, ◌+◌, ◌<◌, ◌≤◌, List, [], ◌∷◌, map, length, get_or, refl, sym, ap, subst, ◌∙◌, arith, inl, inr, AllByRecursion, AllZip, Target, Ranged, Head, CieHead, FdeHead, Headers, HeadsRise}
use Rattle.dw_section.proofs.{Words.{IsRanged, range_in, fde_in, IsTable, Returns, Lists, AreFdes, NoneCovers, IsAmong, Range, Precedes, Ascends, AreApart, IsIndex, Fde, IsNonDecreasingBy, get_or-map}, Lent.Judged.{all_get, all_get_map}}
use Rattle.dw_section.specs.Ranges.{LeadsTo}
use Rattle.dw_section.proofs.{Lent.HeaderLaws.one_headers, Lent.Heads.{heads_rise, one_among, cie_or, fde_or}, Lent.Index.{all_from, one_index}, Stages.one_zip}

-- ---- the list

lists_all : (hs : List Head) (list : List Ranged) → AllByRecursion (IsRanged hs) list → AllZip (Lists hs) (map range_in list) (map fde_in list)
lists_all hs [] h = tt
lists_all hs (e ∷ list) h = (record { begin = refl; end = refl; returns = h.0 }, lists_all hs list h.1)

pub are_fdes : (target : Target) (s : List ℕ) (list : List Ranged) → IsTable target s list → AreFdes target s (map fde_in list)
are_fdes target s list t = record {
  headers = t.indexed.headers;
  are = t.indexed.hold.0.0.0;
  index = map range_in list;
  is_index = t.indexed.is_index;
  each = lists_all t.indexed.headers list t.indexed.each;
}

pub one_register : (hs : List Head) (up : HeadsRise 0 hs) (a : Range) (r q : ℕ) → Returns hs a r → Returns hs a q → r ≡ q
one_register hs up a r q v w =
    let owns = ap (fde_or v.own) (one_among 0 hs _ _ up v.own_among w.own_among (ap (λ (x : Range). x.at) (v.covers ∙ sym w.covers))) in
    let place : v.named.at ≡ w.named.at = sym v.names ∙ ap (λ (f : FdeHead). f.cie_at) owns ∙ w.names in
    v.is ∙ ap (λ (c : CieHead). c.return_register) (ap (cie_or v.named) (one_among 0 hs _ _ up v.named_among w.named_among place)) ∙ sym w.is

same_parts : (b e q b' e' q' : ℕ) → b ≡ b' → e ≡ e' → q ≡ q' → ◌≡◌ {A = Fde} (record { begin = b; end = e; return_register = q }) (record { begin = b'; end = e'; return_register = q' })
same_parts b e q b' e' q' x y z = rw (x, y, z) refl

one_listed : (hs : List Head) (up : HeadsRise 0 hs) (a : Range) (f g : Fde) → Lists hs a f → Lists hs a g → f ≡ g
one_listed hs up a f g v w =
    same_parts f.begin f.end f.return_register g.begin g.end g.return_register (v.begin ∙ sym w.begin) (v.end ∙ sym w.end) (one_register hs up a f.return_register g.return_register v.returns w.returns)

-- what stands beside the index of a section's headers stands beside any index of any headers of it
pub along : {Y : Type 0} (R : List Head → Range → Y → Type 0) (target : Target) (s : List ℕ) (hs ks : List Head) (index other : List Range) (ys : List Y)
    → Headers target s hs → IsIndex hs index → Headers target s ks → IsIndex ks other → AllZip (R ks) other ys → AllZip (R hs) index ys
along R target s hs ks index other ys are is theirs at z =
    let same = one_headers target s ks hs theirs are in
    let one = one_index hs other index (subst (λ (l : List Head). IsIndex l other) same at) is in
    subst (λ (rs : List Range). AllZip (R hs) rs ys) one (subst (λ (l : List Head). AllZip (R l) other ys) same z)

pub one_fdes : (target : Target) (s : List ℕ) (fs gs : List Fde) → AreFdes target s fs → AreFdes target s gs → fs ≡ gs
one_fdes target s fs gs v w =
    one_zip (Lists v.headers) (one_listed v.headers (heads_rise target s v.headers v.are)) v.index fs gs v.each (along Lists target s v.headers w.headers v.index w.index gs v.are v.is_index w.are w.is_index w.each)

-- ---- the search

-- the entry where there is none
abbrev pub none : Ranged
none = record { begin = 0; range = 0; at = 0; return_register = 0 }

pub begins_ascend : (list : List Ranged) → Ascends (map range_in list) → IsNonDecreasingBy (λ (e : Ranged). e.begin) list
begins_ascend (e ∷ list) up zero zero d le lt = omega arith
begins_ascend (e ∷ list) up zero (suc j) d le lt = elim (all_get_map (Precedes (range_in e)) range_in list j d up.0 (omega arith)) [ inl x ↦ omega arith | inr x ↦ omega (arith, x.0) ]
begins_ascend (e ∷ list) up (suc i) (suc j) d le lt = begins_ascend list up.1 i j d (omega arith) (omega arith)
begins_ascend list up i j d le lt = absurd (omega arith)

pub none_above : (a : ℕ) (list : List Ranged) → ((k : ℕ) (d : Ranged) → k < length list → a < (get_or list k d).begin) → NoneCovers a (map fde_in list)
none_above a [] h = tt
none_above a (e ∷ list) h = (λ c. let p = h 0 e (omega arith) in absurd (omega (arith, c.0)), none_above a list (λ k d lt. h (suc k) d (omega arith)))

-- an address that lies behind the last FDE that begins at or below it lies in none
pub none_covers : (a : ℕ) (list : List Ranged) (i : ℕ) (x : Ranged) → AreApart (map range_in list) → i < length list → x ≡ get_or list i x → x.begin ≤ a → x.begin + x.range ≤ a
    → ((k : ℕ) (d : Ranged) → suc i ≤ k → k < length list → a < (get_or list k d).begin) → NoneCovers a (map fde_in list)
none_covers a [] i x apart lt is begin end above = absurd (omega arith)
none_covers a (e ∷ list) zero x apart lt is begin end above =
    (λ c. let p : e.begin + e.range ≤ a = subst (λ (y : Ranged). y.begin + y.range ≤ a) is end in absurd (omega (arith, c.1)), none_above a list (λ k d l. above (suc k) d (omega arith) (omega arith)))
none_covers a (e ∷ list) (suc i) x apart lt is begin end above = (
  λ c. let p = all_get_map (λ (b : Range). e.begin + e.range ≤ b.begin) range_in list i x apart.0 (omega arith) in let q : (get_or list i x).begin ≤ a = subst (λ (y : Ranged). y.begin ≤ a) is begin in absurd (omega (arith, c.1)),
  none_covers a list i x apart.1 (omega arith) is begin end (λ k d le l. above (suc k) d (omega arith) (omega arith)),
)

-- an FDE at a place of a list is listed
pub fde_listed : (f : Fde) (fs : List Fde) (i : ℕ) → i < length fs → ((d : Fde) → f ≡ get_or fs i d) → IsAmong f fs
fde_listed f fs i lt is = subst (λ (x : Fde). IsAmong x fs) (sym (is f)) (all_get (λ x. IsAmong x fs) fs i f (all_from (λ x. IsAmong x fs) fs (λ x among. among)) lt)

pub listed_are : (target : Target) (s : List ℕ) (list : List Ranged) → IsTable target s list → (fs : List Fde) → AreFdes target s fs → map fde_in list ≡ fs
listed_are target s list t fs are = one_fdes target s (map fde_in list) fs (are_fdes target s list t) are

pub listed_fde : (list : List Ranged) (place : ℕ) (e : Ranged) (d : Fde) → place < length list → e ≡ get_or list place e → fde_in e ≡ get_or (map fde_in list) place d
listed_fde list place e d lt is = ap fde_in is ∙ sym (get_or-map fde_in list place e d lt)

-- an entry of the list is of one of its headers
pub ranged_of : (target : Target) (s : List ℕ) (list : List Ranged) (t : IsTable target s list) (i : ℕ) (d : Ranged) → i < length list → IsRanged t.indexed.headers (get_or list i d)
ranged_of target s list t i d lt = all_get (IsRanged t.indexed.headers) list i d t.indexed.each lt

-- so is one that leads to a place
pub led_to : (target : Target) (s : List ℕ) (index : List Ranged) (a at : ℕ) (t : IsTable target s index) (l : LeadsTo index a at) → IsRanged t.indexed.headers l.0
led_to target s index a at t l = subst (IsRanged t.indexed.headers) (sym (l.1.2 none)) (ranged_of target s index t l.1.0 none l.1.1)

pub same_fde : (b r q b' r' q' : ℕ) → b ≡ b' → r ≡ r' → q ≡ q' → ◌≡◌ {A = Fde} (record { begin = b; end = b + r; return_register = q }) (record { begin = b'; end = b' + r'; return_register = q' })
same_fde b r q b' r' q' e f g = same_parts b (b + r) q b' (b' + r') q' e (omega (arith, e, f)) g
