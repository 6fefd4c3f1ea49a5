-- Laws of a section that is accepted: what it says of an FDE is one thing, and each address has rules.
use Rattle.dw_section.proofs.Words.{◌≡◌, ℕ, ◌+◌, ◌<◌, ◌≤◌, List, [], ◌∷◌, refl, sym, ap, subst, ◌∙◌, arith, inl, inr, AllByRecursion, AllZip, Target, AreBytes, address_limit, Instr, HoldsAfter, Rules}
use Rattle.dw_section.proofs.Words.{Accepted, HoldsAt, AreChanges, Head, Headers, FdeHead, cie, fde, HeadsRise, HasBytes, FdeFits, cie_ats, FdeSays, Lists, AreFdes, RulesAt, ChangesOf, Covers, Range, nonempty}
use Rattle.dw_section.proofs.{Words.{AreApart, end_of, range_of, FdeRuns, HasRules, Instrs, HasCfa, IsAmong, Fde, counts_exists, one_count}, FdeRows.given, Lent.ChangeLaws.{Given, row_there, holds_at}}
use Rattle.dw_section.proofs.Lent.{CheckFirst.one_instrs, FdeLookup.along, HeaderLaws.one_headers, Heads.{all_in, heads_rise, heads_bytes, heads_fit, one_among, fde_or}, Index.{all_from, with_range_so, zip_left, zip_right}, Rowed.one_row}

-- ---- ranges and headers

pub head_range : (hs : List Head) (f : FdeHead) → 0 < f.range → IsAmong (fde f) hs → IsAmong (range_of f) (nonempty hs)
head_range [] f some i = absurd i
head_range (cie c ∷ hs) f some (inl is) = absurd cc
head_range (cie c ∷ hs) f some (inr i) = head_range hs f some i
head_range (fde g ∷ hs) f some i =
    with_range_so (λ (rs : List Range). IsAmong (range_of f) rs) (range_of g) (nonempty hs)
    (λ none. elim i [ inl is ↦ absurd (omega (arith, none, ap (λ (h : Head). (fde_or g h).range) is)) | inr j ↦ head_range hs f some j ])
    (λ more. elim i [ inl is ↦ inl (ap (λ (h : Head). range_of (fde_or g h)) is) | inr j ↦ inr (head_range hs f some j) ])

-- the header of a range
pub record HeadOf (hs : List Head) (a : Range) : Type 0 where
  pub head : FdeHead
  pub among : IsAmong (fde head) hs
  pub covers : range_of head ≡ a
  pub some : 0 < a.range

more_head : (h : Head) (hs : List Head) (a : Range) → HeadOf hs a → HeadOf (h ∷ hs) a
more_head h hs a o = record { head = o.head; among = inr o.among; covers = o.covers; some = o.some }

pub range_head : (hs : List Head) (a : Range) → IsAmong a (nonempty hs) → HeadOf hs a
range_head [] a i = absurd i
range_head (cie c ∷ hs) a i = more_head (cie c) hs a (range_head hs a i)
range_head (fde f ∷ hs) a i =
    with_range_so (λ (rs : List Range). IsAmong a rs → HeadOf (fde f ∷ hs) a) (range_of f) (nonempty hs) (λ none j. more_head (fde f) hs a (range_head hs a j))
    (λ some. elim [
      | inl is ↦ record { head = f; among = inl refl; covers = sym is; some = omega (arith, some, ap (λ (x : Range). x.range) is) }
      | inr j ↦ more_head (fde f) hs a (range_head hs a j)
    ]) i

-- an address lies in one range
pub one_cover : (rs : List Range) (x y : Range) (a : ℕ) → AreApart rs → IsAmong x rs → IsAmong y rs → x.begin ≤ a → a < end_of x → y.begin ≤ a → a < end_of y → x ≡ y
one_cover [] x y a apart i j fx bx fy by = absurd i
one_cover (z ∷ rs) x y a apart (inl i) (inl j) fx bx fy by = i ∙ sym j
one_cover (z ∷ rs) x y a apart (inl i) (inr j) fx bx fy by = absurd (omega (arith, all_in (λ (w : Range). end_of z ≤ w.begin) rs y apart.0 j, ap end_of i))
one_cover (z ∷ rs) x y a apart (inr i) (inl j) fx bx fy by = absurd (omega (arith, all_in (λ (w : Range). end_of z ≤ w.begin) rs x apart.0 i, ap end_of j))
one_cover (z ∷ rs) x y a apart (inr i) (inr j) fx bx fy by = one_cover rs x y a apart.1 i j fx bx fy by

-- ---- lists side by side

pub make_zip : (R : Range → Fde → Type 0) (rs : List Range) → AllByRecursion (λ a. (f : Fde) × R a f) rs → (fs : List Fde) × AllZip R rs fs
make_zip R [] h = ([], tt)
make_zip R (r ∷ rs) h = let rest = make_zip R rs h.1 in (h.0.0 ∷ rest.0, (h.0.1, rest.1))

-- ---- rules at an address

module _ (target : Target) (s : List ℕ) (a : ℕ) (row : Rules) where
  pub rules_hold : (h : RulesAt target s a row) → HoldsAt h.initial h.instrs h.begin a row
  rules_hold h k counts = subst (λ (j : ℕ). HoldsAfter h.initial h.instrs j row) (one_count h.begin h.instrs a h.k k h.counts counts) h.holds

  pub programs_rules : (begin end : ℕ) (i j : List Instr) → FdeSays target s begin end i j → begin ≤ a → a < end → HoldsAt i j begin a row → RulesAt target s a row
  programs_rules begin end i j h le lt holds =
      let c = counts_exists begin j a le in
      record { begin = begin; end = end; initial = i; instrs = j; says = h; from = le; below = lt; k = c.0; counts = c.1; holds = holds c.0 c.1 }

-- ---- the section

module _ (target : Target) (s : List ℕ) (b : AreBytes s) (ok : Accepted target s) where
  abbrev pub hs : List Head
  hs = ok.1.0

  abbrev pub index : List Range
  index = ok.0

  pub headers_of : Headers target s hs
  headers_of = ok.1.1.0.0.0

  up : HeadsRise 0 hs
  up = heads_rise target s hs headers_of

  bytes : AllByRecursion HasBytes hs
  bytes = heads_bytes target s hs b headers_of

  -- the FDE of some programs, among these headers
  pub record Here (begin end : ℕ) (initial instrs : List Instr) : Type 0 where
    pub head : FdeHead
    pub among : IsAmong (fde head) hs
    pub begin_is : begin ≡ head.begin
    pub end_is : end ≡ head.begin + head.range
    pub spelled : Instrs target hs head.cie_at head.program initial instrs

  unfoldable pub here : (begin end : ℕ) (i j : List Instr) → FdeSays target s begin end i j → Here begin end i j
  here begin end i j h =
      let same : h.headers ≡ hs = one_headers target s h.headers hs h.are headers_of in
      record {
        head = h.head;
        among = subst (IsAmong (fde h.head)) same h.among;
        begin_is = h.begin_is;
        end_is = h.end_is;
        spelled = subst (λ (l : List Head). Instrs target l h.head.cie_at h.head.program i j) same h.spelled;
      }

  pub in_index : (f : FdeHead) → 0 < f.range → IsAmong (fde f) hs → IsAmong (range_of f) index
  in_index f some among = all_in (λ (a : Range). IsAmong a index) (nonempty hs) (range_of f) ok.1.2.all (head_range hs f some among)

  -- at an address two FDEs are one
  pub one_head : (a begin end from till : ℕ) (i j k l : List Instr) → begin ≤ a → a < end → from ≤ a → a < till → (v : FdeSays target s begin end i j) (w : FdeSays target s from till k l) → v.head ≡ w.head
  unfolding here
  one_head a begin end from till i j k l le lt le' lt' v w =
      let x = here begin end i j v in
      let y = here from till k l w in
      let same = one_cover index (range_of x.head) (range_of y.head) a ok.2 (in_index x.head (omega (arith, x.begin_is, x.end_is)) x.among) (in_index y.head (omega (arith, y.begin_is, y.end_is)) y.among)
      (omega (arith, x.begin_is)) (omega (arith, x.end_is)) (omega (arith, y.begin_is)) (omega (arith, y.end_is)) in
      ap (fde_or x.head) (one_among 0 hs (fde x.head) (fde y.head) up x.among y.among (ap (λ (r : Range). r.at) same))

  pub record SamePrograms (begin end from till : ℕ) (i j k l : List Instr) : Type 0 where
    pub begins : begin ≡ from
    pub ends : end ≡ till
    pub initials : i ≡ k
    pub instrs : j ≡ l

  pub one_programs : (a begin end from till : ℕ) (i j k l : List Instr) → begin ≤ a → a < end → from ≤ a → a < till → FdeSays target s begin end i j → FdeSays target s from till k l → SamePrograms begin end from till i j k l
  unfolding here
  one_programs a begin end from till i j k l le lt le' lt' v w =
      let x = here begin end i j v in
      let y = here from till k l w in
      let heads : x.head ≡ y.head = one_head a begin end from till i j k l le lt le' lt' v w in
      let one = one_instrs target hs up bytes y.head.cie_at y.head.program i j k l (all_in HasBytes hs _ bytes y.among) (subst (λ (f : FdeHead). Instrs target hs f.cie_at f.program i j) heads x.spelled) y.spelled in
      record { begins = omega (arith, x.begin_is, y.begin_is, ap (λ (f : FdeHead). f.begin) heads); ends = omega (arith, x.end_is, y.end_is, ap (λ (f : FdeHead). f.begin + f.range) heads); initials = one.0; instrs = one.1 }

  -- ---- programs keep what they have to

  pub cfa_programs : (begin end a : ℕ) (i j : List Instr) → FdeSays target s begin end i j → begin ≤ a → a < end → HasCfa i j begin a
  cfa_programs begin end a i j h le lt =
      let x = here begin end i j h in
      let has = all_in (HasRules target hs) hs (fde x.head) ok.1.1.1 x.among in
      let one = one_instrs target hs up bytes x.head.cie_at x.head.program has.0 has.1 i j (all_in HasBytes hs _ bytes x.among) has.2 x.spelled in
      let there = rw (one.0, one.1) at (has.3 a (omega (arith, x.begin_is)) (omega (arith, x.end_is))) in
      subst (λ (n : ℕ). HasCfa i j n a) (sym x.begin_is) there

  pub begin_low : (begin end : ℕ) (i j : List Instr) → FdeSays target s begin end i j → (begin < address_limit target.size) × (end ≤ address_limit target.size)
  begin_low begin end i j h =
      let x = here begin end i j h in
      let fits = all_in (FdeFits target (cie_ats hs)) hs (fde x.head) (heads_fit target s hs headers_of) x.among in
      (omega (arith, fits.0, x.begin_is), omega (arith, fits.1, x.end_is))

  -- the rows that it gives
  pub given_by : (begin end : ℕ) (i j : List Instr) (h : FdeSays target s begin end i j) → Given target (here begin end i j h).spelled.head (here begin end i j h).head i j
  given_by begin end i j h = let x = here begin end i j h in given target s b hs ok.1.1 x.spelled.head x.head i j x.among x.spelled.begins x.spelled.spelled

  -- a row that holds at an address
  pub row_exists : (begin end a : ℕ) (i j : List Instr) → FdeSays target s begin end i j → begin ≤ a → (row : Rules) × HoldsAt i j begin a row
  row_exists begin end a i j h le =
      let x = here begin end i j h in
      let row = row_there target x.spelled.head x.head i j end (given_by begin end i j h) a (omega (arith, le, x.begin_is)) in
      (row.0, subst (λ (n : ℕ). HoldsAt i j n a row.0) (sym x.begin_is) (holds_at i j x.head.begin end a row.0 row.2))

  -- ---- rules at an address

  -- the rules at an address are one
  pub one_rules : (a : ℕ) (x y : Rules) → RulesAt target s a x → RulesAt target s a y → x ≡ y
  one_rules a x y v w =
      let same = one_programs a v.begin v.end w.begin w.end v.initial v.instrs w.initial w.instrs v.from v.below w.from w.below v.says w.says in
      let there = rw (same.initials, same.instrs, same.begins) at (rules_hold target s a x v) in
      one_row w.initial w.instrs w.begin a x y w.from there (rules_hold target s a y w)

  -- ---- changes

  pub changes_programs : (f : Fde) (changes : List (ℕ × Rules)) → ChangesOf target s f changes → (i : List Instr) × (j : List Instr) × FdeSays target s f.begin f.end i j × AreChanges i j f.begin f.end changes
  changes_programs f changes h = (h.initial, h.instrs, h.says, h.change)

  -- ---- the list of FDEs

  index_head : (a : Range) → IsAmong a index → HeadOf hs a
  index_head a i = range_head hs a (all_in (λ (x : Range). IsAmong x (nonempty hs)) index a ok.1.2.from i)

  list_one : (a : Range) → IsAmong a index → (f : Fde) × Lists hs a f
  list_one a i =
      let o = index_head a i in
      let named = (all_in (FdeRuns target hs) hs (fde o.head) ok.1.1.0.1 o.among).2 in (
        record { begin = a.begin; end = end_of a; return_register = named.head.return_register },
        record {
          begin = refl;
          end = refl;
          returns = record { own = o.head; named = named.head; own_among = o.among; named_among = named.begins.among; covers = o.covers; names = sym named.begins.stands; is = refl };
        },
      )

  -- it has a list of FDEs
  pub fdes_exist : (fs : List Fde) × AreFdes target s fs
  fdes_exist =
      let z = make_zip (Lists hs) index (all_from (λ a. (f : Fde) × Lists hs a f) index list_one) in
      (z.0, record { headers = hs; are = headers_of; index = index; is_index = ok.1.2; each = z.1 })

  -- the list goes by the index
  pub fdes_zip : (fs : List Fde) → AreFdes target s fs → AllZip (Lists hs) index fs
  fdes_zip fs h = along Lists target s hs h.headers index h.index fs headers_of ok.1.2 h.are h.is_index h.each

  -- an FDE of the list is not empty and has programs
  pub listed_programs : (fs : List Fde) (f : Fde) → AreFdes target s fs → IsAmong f fs → (f.begin < f.end) × ((i : List Instr) × (j : List Instr) × FdeSays target s f.begin f.end i j)
  listed_programs fs f h l =
      let z = zip_right (Lists hs) index fs f (fdes_zip fs h) l in
      let lists = z.2 in
      let o = index_head z.0 z.1 in
      let runs = all_in (FdeRuns target hs) hs (fde o.head) ok.1.1.0.1 o.among in
      (omega (arith, lists.begin, lists.end, o.some), (runs.0, runs.1, record { headers = hs; are = headers_of; head = o.head; among = o.among; begin_is = lists.begin ∙ ap (λ (r : Range). r.begin) (sym o.covers); end_is = lists.end ∙ ap end_of (sym o.covers); spelled = runs.2 }))

  -- and an FDE that is not empty is in the list
  pub programs_listed : (fs : List Fde) (begin end : ℕ) (i j : List Instr) → AreFdes target s fs → begin < end → FdeSays target s begin end i j → (f : Fde) × IsAmong f fs × (f.begin ≡ begin) × (f.end ≡ end)
  programs_listed fs begin end i j h lt p =
      let x = here begin end i j p in
      let z = zip_left (Lists hs) index fs (range_of x.head) (fdes_zip fs h) (in_index x.head (omega (arith, x.begin_is, x.end_is)) x.among) in
      (z.0, z.1, z.2.begin ∙ sym x.begin_is, z.2.end ∙ sym x.end_is)

  -- each address of an FDE has rules
  pub rules_exist : (fs : List Fde) (f : Fde) (a : ℕ) → AreFdes target s fs → IsAmong f fs → Covers a f → (row : Rules) × RulesAt target s a row
  rules_exist fs f a are listed covers =
      let p = (listed_programs fs f are listed).1 in
      let row = row_exists f.begin f.end a p.0 p.1 p.2 covers.0 in
      (row.0, programs_rules target s a row.0 f.begin f.end p.0 p.1 p.2 covers.0 covers.1 row.1)

  -- and an address that has rules is one of an FDE
  pub rules_covered : (fs : List Fde) (a : ℕ) (row : Rules) → AreFdes target s fs → RulesAt target s a row → (f : Fde) × IsAmong f fs × Covers a f
  rules_covered fs a row are h =
      let listed = programs_listed fs h.begin h.end h.initial h.instrs are (omega (arith, h.from, h.below)) h.says in
      (listed.0, listed.1, (omega (arith, listed.2, h.from), omega (arith, listed.3, h.below)))
