-- The FDEs of a section with their changes, one by one.
use Rattle.dw_show.proofs.Words.{◌≡◌, ◌∙◌, ℕ, ◌+◌, ◌-◌, ◌<◌, ◌≤◌, ◌^◌, min, List, [], ◌∷◌, length, map, get_or, inl, inr, refl, ap, arith, subst, sym, AllByRecursion, AllZip, length-map, AreBytes, Size, Target}
use Rattle.dw_show.proofs.Words.{Rules, blank, Accepted, IsAmong, AreFdes, ChangesOf, RowStarts, total, Section, Fde, AreMembers, IsMember, Member, changes_of, fde_of, members_exist, change_count}
use Rattle.std.proofs.Math.ListN.{get_or-map}
use Rattle.dw_num.specs.{Target.address_limit, declared.target.Size.TheVariants.{Four, Eight}}
use Rattle.dw_section.proofs.Lent.{Judged.all_get, Sames.one_change_list, Totals.least_total}
use Rattle.dw_canon.specs.Inner.{Fits.{ChangesStand, MemberStands}, Canon.initial_of}
use Rattle.dw_canon.proofs.Lent.Rendered.{nonempty, stand}

-- ---- addresses

limit_small : (size : Size) → address_limit size ≤ 2 ^ 64
limit_small Four = omega arith
limit_small Eight = omega arith

-- changes that stand below an end are below it
below_end : (t : Target) (initial : Rules) (end at : ℕ) (row : Rules) (changes : List (ℕ × Rules)) → ChangesStand t initial end at row changes → at < end
below_end t initial end at row [] h = h
below_end t initial end at row (change ∷ changes) h = let rest = below_end t initial end change.0 change.1 changes h.3 in omega (arith, h.0, rest)

-- an address of at most 64 bits, or the one behind them
abbrev pub IsLow : ℕ × Rules → Type 0
IsLow change = change.0 ≤ 2 ^ 64

all_low : (t : Target) (initial : Rules) (end at : ℕ) (row : Rules) (changes : List (ℕ × Rules))
    → end ≤ 2 ^ 64 → ChangesStand t initial end at row changes → AllByRecursion IsLow changes
all_low t initial end at row [] small h = tt
all_low t initial end at row (change ∷ changes) small h =
    let here = below_end t initial end change.0 change.1 changes h.3 in
    (omega (arith, here, small), all_low t initial end change.0 change.1 changes small h.3)

-- ---- each FDE

-- one for where there is none
abbrev pub no_member : Member
no_member = record { begin = 0; end = 0; register = 0; first = blank; later = [] }

module _ (t : Target) (s : List ℕ) (b : AreBytes s) (ok : Accepted t s) (ms : List Member) (are : AreMembers t s ms)
    (k : ℕ) (d : Member) (lt : k < length ms) where
  stands : MemberStands t (initial_of ms (get_or ms k d).register) (get_or ms k d)
  stands = all_get (λ (n : Member). MemberStands t (initial_of ms n.register) n) ms k d (stand t s b ok ms are) lt

  pub end_low : (get_or ms k d).end ≤ 2 ^ 64
  end_low = omega (arith, stands.in_space, limit_small t.size)

  pub changes_low : AllByRecursion IsLow (changes_of (get_or ms k d))
  changes_low =
      let m = get_or ms k d in
      let first = below_end t (initial_of ms m.register) m.end m.begin m.first m.later stands.later in
      (omega (arith, first, end_low), all_low t (initial_of ms m.register) m.end m.begin m.first m.later end_low stands.later)

  -- changes of the FDE are the member's
  pub come_all : (changes : List (ℕ × Rules))
      → ((fs : List Fde) → AreFdes t s fs → (e : Fde) → ChangesOf t s (get_or fs k e) changes) → changes ≡ changes_of (get_or ms k d)
  come_all changes each =
      let m = get_or ms k d in
      let is = all_get (IsMember t s) ms k d are.each lt in
      let some : m.begin < m.end = all_get (λ (n : Member). n.begin < n.end) ms k d (nonempty t s b ok ms are) lt in
      let own = subst (λ (f : Fde). ChangesOf t s f changes) (get_or-map fde_of ms k d) (each (map fde_of ms) are.fdes (fde_of d)) in
      one_change_list t s b ok (fde_of m) changes (changes_of m) some own is

  -- an FDE that is listed there is the member's
  pub fde_is : (f : Fde) → ((fs : List Fde) → AreFdes t s fs → (e : Fde) → f ≡ get_or fs k e) → f ≡ fde_of (get_or ms k d)
  fde_is f is = is (map fde_of ms) are.fdes (fde_of d) ∙ get_or-map fde_of ms k d

-- ---- one of them

ends_low : (t : Target) (all ms : List Member) → AllByRecursion (λ (n : Member). MemberStands t (initial_of all n.register) n) ms → (f : Fde) → IsAmong f (map fde_of ms) → f.end ≤ 2 ^ 64
ends_low t all [] h f i = absurd i
ends_low t all (m ∷ ms) h f (inl is) =
    let small = limit_small t.size in
    let space = h.0.in_space in
    subst (λ (g : Fde). g.end ≤ 2 ^ 64) (sym is) (omega (arith, small, space))
ends_low t all (m ∷ ms) h f (inr i) = ends_low t all ms h.1 f i

-- an FDE that is listed ends in the space of addresses
pub fde_low : (t : Target) (s : List ℕ) → AreBytes s → Accepted t s → (f : Fde) → ((fs : List Fde) → AreFdes t s fs → IsAmong f fs) → f.end ≤ 2 ^ 64
fde_low t s b ok f among =
    let found = members_exist t s b ok in
    ends_low t found.0 found.0 (stand t s b ok found.0 found.1) f (among (map fde_of found.0) found.1.fdes)

-- ---- all of them

pub as_many : (t : Target) (s : List ℕ) (ms : List Member) (count : ℕ)
    → AreMembers t s ms → ((fs : List Fde) → AreFdes t s fs → count ≡ length fs) → count ≡ length ms
as_many t s ms count are is = is (map fde_of ms) are.fdes ∙ length-map ms fde_of

zipped : (t : Target) (s : List ℕ) (ms : List Member) → AllByRecursion (IsMember t s) ms
    → AllZip (λ f changes. ChangesOf t s f changes) (map fde_of ms) (map changes_of ms)
zipped t s [] h = tt
zipped t s (m ∷ ms) h = (h.0, zipped t s ms h.1)

lengths : (ms : List Member) → total (map length (map changes_of ms)) ≡ total (map change_count ms)
lengths [] = refl
lengths (m ∷ ms) = ap (λ (n : ℕ). length (changes_of m) + n) (lengths ms)

-- no more changes than rows that are started
pub changes_few : (t : Target) (s : List ℕ) → AreBytes s → Accepted t s → (ms : List Member) → AreMembers t s ms
    → (n : ℕ) → RowStarts t s n → total (map change_count ms) ≤ n
changes_few t s b ok ms are n starts =
    let few = least_total t s b ok (map fde_of ms) (map changes_of ms) n are.fdes (zipped t s ms are.each) starts in
    omega (arith, lengths ms, few)

-- ---- a section that was checked

-- it has a list of them
pub members_at : (target : Target) (s : List ℕ) (table : Section) → table ≡ record { target = target; bytes = s }
    → AreBytes table.bytes → Accepted table.target table.bytes → (ms : List Member) × AreMembers table.target table.bytes ms × AreMembers target s ms
members_at target s table is b ok =
    let found = members_exist table.target table.bytes b ok in
    (found.0, found.1, subst (λ (x : Section). AreMembers x.target x.bytes found.0) is found.1)

-- ---- how many changes

-- those of one FDE more, up to the most that a count can be
pub counted_more : (count one sum all before changes own : ℕ) → all ≡ min (count + one) (2 ^ 64 - 1) → one ≡ min changes (2 ^ 64 - 1)
    → count ≡ min before (2 ^ 64 - 1) → sum ≡ before + own → changes ≡ own → all ≡ min sum (2 ^ 64 - 1)
counted_more count one sum all before changes own a b c d e = omega (arith, a, b, c, d, e)
