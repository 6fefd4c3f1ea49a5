-- The normal form of a section is no longer than the shares of its FDEs.
use Rattle.dw_canon.specs.Bound.{share, Shares, WithinShares}
use Rattle.dw_canon.specs.Inner.Laid as layout
use Rattle.dw_canon.proofs.Words.{rules, ◌≡◌, ℕ, ◌+◌, ◌*◌, ◌<◌, ◌≤◌, List, [], ◌∷◌, length, map, refl, ap, subst, inl, inr, arith, ◌∙◌, nat_eq, AllByRecursion, eqb_tells, length-append, Size, Four, Eight, Target}
use Rattle.dw_canon.proofs.Words.{AreBytes, length-fixed, Accepted, group_of, groups_of, part_of, parts_of, canon, cie_instrs, initial_of, return_registers, MemberStands, group, cie_of, Member}
use Rattle.dw_canon.proofs.{Words.{IsMember, AreMembers, fde_of, changes_of, program_bytes, cie_id, cie_spelling, entry_bytes, section_bytes, cie_field_bytes}, AscendingRegisters.{Rise, with_all_rise}}
use Rattle.dw_canon.proofs.Lent.{Differences.In, Extra.{section_append, up, entry_up, fde_length}, Forms.whole_is, Layout.laid_is, MemberPlaces.all_some, Rendered.{fits, stand, nonempty, low_registers}, Shared.MemberFits}
use Rattle.dw_canon.proofs.{Prices.{IsPriced, is_priced, fde_len, cie_len}, Squares.changes_most, Sums.{sum_of, if_own, once_own, sum_once}, Weights.register_len, Within.all_len}
use Rattle.dw_canon.proofs.Lent.InstrFits as fitting

-- ---- entries

up_most : (size : Size) (n : ℕ) → up size n ≤ n + 7
up_most Four n = omega arith
up_most Eight n = omega arith

fde_most : (t : Target) (gs : List layout.Group) (p : layout.Part) → length (entry_bytes t (layout.fde_of t gs p)) ≤ 31 + length p.program
fde_most t gs p = search (rules, fde_length t (layout.place_of t 0 gs p.register) p.begin p.range p.instrs p.program)

cie_most : (t : Target) (g : layout.Group) → g.register < 65536 → length (entry_bytes t (cie_of g)) ≤ 24 + length g.program
cie_most t g lt = omega (
  arith,
  entry_up t (cie_of g),
  up_most t.size (4 + (length (cie_field_bytes t g.register) + length g.program)),
  length-append (cie_id t) (cie_spelling t g.register),
  length-fixed t.order 4 0xffffffff,
  register_len g.register lt,
)

-- ---- the members with what they are priced at

-- each with its share, all of which add up to so much
abbrev Priced : Target → List Member → ℕ → Type 0
Priced t [] n = n ≡ 0
Priced t (m ∷ xs) n = (own : ℕ) × (initial : ℕ) × (rest : ℕ) × IsPriced t m own initial × (n ≡ share own initial + rest) × Priced t xs rest

-- what a CIE takes whose group begins with a member, for each of them
abbrev prices : (t : Target) (xs : List Member) (n : ℕ) → Priced t xs n → List (ℕ × ℕ)
prices t [] n h = []
prices t (m ∷ xs) n h = (m.register, 38 + all_len t h.3.i h.3.j) ∷ prices t xs h.2 h.5

abbrev own_price : ℕ → ℕ × ℕ → ℕ
own_price r price = if_own price.0 price.1 r

abbrev price_of : ℕ × ℕ → ℕ
price_of price = price.1

-- the first of a group has its price
head_price : (t : Target) (r c : ℕ) (xs : List Member) (n : ℕ) (h : Priced t xs n) → In r (map (λ (m : Member). m.register) xs)
    → ((m : Member) (rest : List Member) (own initial : ℕ) → group r xs ≡ m ∷ rest → (p : IsPriced t m own initial) → c ≤ 38 + all_len t p.i p.j)
    → c ≤ sum_of (own_price r) (prices t xs n h)
head_price t r c [] n h i most = absurd i
head_price t r c (m ∷ xs) n h i most = elim (eqb_tells m.register r) [
  | inl is ↦ rw (is.0) (omega (arith, most m (group r xs) h.0 h.1 (rw (is.0) refl) h.3))
  | inr not ↦ elim i [
    | inl here ↦ absurd (not.1 here)
    | inr there ↦ rw (not.0) (omega (arith, head_price t r c xs h.2 h.5 there (λ x rest own initial e p. most x rest own initial (rw (not.0) e) p)))
  ]
]

in_self : (all rs : List ℕ) → ((r : ℕ) → In r rs → In r all) → AllByRecursion (λ (r : ℕ). In r all) rs
in_self all [] into = tt
in_self all (r ∷ rs) into = (into r (inl refl), in_self all rs (λ q i. into q (inr i)))

-- ---- the section

module _ (t : Target) (s : List ℕ) (b : AreBytes s) (ok : Accepted t s) (ms : List Member) (are : AreMembers t s ms) where
  all_priced : (xs : List Member) (n : ℕ) → AllByRecursion (IsMember t s) xs → AllByRecursion (MemberFits t) xs → AllByRecursion (λ (m : Member). m.begin < m.end) xs → Shares t s (map fde_of xs) n → Priced t xs n
  all_priced [] n is fit some h = h
  all_priced (m ∷ xs) n is fit some h = (h.0, h.1, h.2, is_priced t s b ok m h.0 h.1 is.0 fit.0 some.0 h.3, h.4, all_priced xs h.2 is.1 fit.1 some.1 h.5)

  cie_cost : (r : ℕ) → ℕ
  cie_cost r = 24 + length (program_bytes t (cie_instrs (initial_of ms r)))

  cies_most : (rs : List ℕ) → AllByRecursion (λ (r : ℕ). r < 65536) rs → length (section_bytes t (map cie_of (map (group_of t ms) rs))) ≤ sum_of cie_cost rs
  unfolding cie_cost
  cies_most [] low = omega arith
  cies_most (r ∷ rs) low =
      let g = group_of t ms r in
      omega (arith, length-append (entry_bytes t (cie_of g)) (section_bytes t (map cie_of (map (group_of t ms) rs))), cie_most t g low.0, cies_most rs low.1)

  module _ (n : ℕ) (h : Priced t ms n) where
    one_cie : (r : ℕ) → In r (map (λ (m : Member). m.register) ms) → cie_cost r ≤ sum_of (own_price r) (prices t ms n h)
    unfolding cie_cost
    one_cie r i = head_price t r (cie_cost r) ms n h i (λ m rest own initial e p.
        let fit = subst (AllByRecursion (MemberFits t)) e (all_some (MemberFits t) (λ (k : Member). nat_eq k.register r) ms (fits t s b ok ms are)) in
        rw e (omega (arith, cie_len t m own initial p rest fit)))

    all_cies : (rs : List ℕ) → AllByRecursion (λ (r : ℕ). In r (map (λ (m : Member). m.register) ms)) rs → sum_of cie_cost rs ≤ sum_of (λ (r : ℕ). sum_of (own_price r) (prices t ms n h)) rs
    all_cies [] i = omega arith
    all_cies (r ∷ rs) i = omega (arith, one_cie r i.0, all_cies rs i.1)

    cies_within : length (section_bytes t (map cie_of (groups_of t ms))) ≤ sum_of price_of (prices t ms n h)
    cies_within =
        let registers = map (λ (m : Member). m.register) ms in
        let rs = return_registers ms in
        let rise : Rise 0 rs = with_all_rise registers [] tt in
        let inside = fitting.with_all (λ (r : ℕ). In r registers) registers [] (in_self registers registers (λ r i. i)) tt in
        omega (
          arith,
          cies_most rs (low_registers t s b ok ms are),
          all_cies rs inside,
          sum_once own_price price_of rs (λ price. once_own price.0 price.1 0 rs rise) (prices t ms n h),
        )

  -- FDEs and the prices of CIEs
  fdes_within : (xs : List Member) (n : ℕ) (h : Priced t xs n) → AllByRecursion (λ (m : Member). MemberStands t (initial_of ms m.register) m) xs
      → 24 * (length (section_bytes t (map (layout.fde_of t (groups_of t ms)) (map (part_of t ms) xs))) + sum_of price_of (prices t xs n h)) ≤ n
  fdes_within [] n h stands = omega arith
  fdes_within (m ∷ xs) n h stands =
      let p = part_of t ms m in
      let row = initial_of ms m.register in
      let w = all_len t h.3.i h.3.j in
      omega (
        arith,
        length-append (entry_bytes t (layout.fde_of t (groups_of t ms) p)) (section_bytes t (map (layout.fde_of t (groups_of t ms)) (map (part_of t ms) xs))),
        fde_most t (groups_of t ms) p,
        fde_len t m h.0 h.1 h.3 row stands.0.first.rests,
        changes_most (length (changes_of m)) w (6 * (h.0 + h.1)) h.3.few,
        h.4,
        fdes_within xs h.2 h.5 stands.1,
      )

  pub canon_within : (n : ℕ) → Shares t s (map fde_of ms) n → 24 * length (canon t ms) ≤ n
  canon_within n shares =
      let h = all_priced ms n are.each (fits t s b ok ms are) (nonempty t s b ok ms are) shares in
      let cies = map cie_of (groups_of t ms) in
      let fdes = map (layout.fde_of t (groups_of t ms)) (parts_of t ms) in
      omega (
        arith,
        ap length (laid_is t ms ∙ section_append t cies fdes),
        length-append (section_bytes t cies) (section_bytes t fdes),
        cies_within n h,
        fdes_within ms n h (stand t s b ok ms are),
      )

pub within_shares : WithinShares
within_shares t s n sum b h shares = search (rules, ap length (whole_is t s n b h), canon_within t s b h.accepted h.members h.are sum shares)
