-- An FDE that was begun, among the entries of the normal form.
use Rattle.dw_section.proofs.Lent.Sections.{changes_programs}
use Rattle.dw_canon.proofs.Lent.Readback.{range_low}
use Rattle.dw_normal.proofs.Words.{◌≡◌, ℕ, ◌+◌, ◌<◌, ◌≤◌, List, length, get_or, Option, Some, None, IsSome, refl, sym, subst, ap, ◌∙◌, arith, ◌^◌, AreBytes, Target, address_limit, Rules, Accepted, Fde, groups_of, nonempty, changes_of}
use Rattle.dw_normal.proofs.{Words.{fde_of, row_of, place_of, Member, AreMembers, IsMember, IsBegun, initial_rows, cies_bytes, place_in, cie_place, Begun, all_get}, Placed.stands_at, Sited.{place_low, place_is, is_placed}}

-- each row has a place
pub has_place : (t : Target) (rows : List (ℕ × Rules)) (places : List (ℕ × ℕ)) (r : ℕ) → ((q : ℕ) → place_in places q ≡ cie_place t 0 rows q) → IsSome (row_of rows r) → IsSome (place_in places r)
has_place t rows places r kept some = by_row (row_of rows r) refl some
  where
    by_row : (o : Option Rules) → row_of rows r ≡ o → IsSome o → IsSome (place_in places r)
    by_row None e is = absurd cc
    by_row (Some x) e is = subst (λ (o : Option ℕ). IsSome o) (sym (kept r ∙ (is_placed t 0 rows r x e).1)) refl

-- it was begun, and the CIEs before it have their places
pub record Located (t : Target) (s : List ℕ) (ms : List Member) (k : ℕ) (d : Member) (begun : Begun) (rows : List (ℕ × Rules)) (places : List (ℕ × ℕ)) : Type 0 where
  pub bytes : AreBytes s
  pub accepted : Accepted t s
  pub are : AreMembers t s ms
  pub low : length (cies_bytes t rows) ≤ 2147483647
  pub lt : k < length ms
  pub is : IsBegun ms (get_or ms k d) begun
  pub rows_are : rows ≡ initial_rows ms
  pub kept : (r : ℕ) → place_in places r ≡ cie_place t 0 rows r
  pub stands : place_in places begun.fde.return_register ≡ Some begun.cie_at

module _ {t : Target} {s : List ℕ} {ms : List Member} {k : ℕ} {d : Member} {begun : Begun} {rows : List (ℕ × Rules)} {places : List (ℕ × ℕ)} (h : Located t s ms k d begun rows places) where
  abbrev m : Member
  m = get_or ms k d

  abbrev register : ℕ
  register = begun.fde.return_register

  there : cie_place t 0 rows register ≡ Some begun.cie_at
  there = sym (h.kept register) ∙ h.stands

  -- the place of its CIE can be spelled
  pub place_fits : begun.cie_at < 2 ^ 32
  place_fits = omega (arith, place_low t 0 rows register begun.cie_at there, h.low)

  pub place_own : begun.cie_at ≡ place_of t 0 (groups_of t ms) m.register
  place_own =
      let own : register ≡ m.register = ap (λ (f : Fde). f.return_register) h.is.fde in
      sym (place_is t ms m.register begun.cie_at (ap (λ (l : List (ℕ × Rules)). cie_place t 0 l m.register) (sym h.rows_are) ∙ ap (cie_place t 0 rows) (sym own) ∙ there))

  some : m.begin < m.end
  some = all_get (λ (n : Member). n.begin < n.end) ms k d (nonempty t s h.bytes h.accepted ms h.are) h.lt

  begin_is : begun.fde.begin ≡ m.begin
  begin_is = ap (λ (f : Fde). f.begin) h.is.fde

  end_is : begun.fde.end ≡ m.end
  end_is = ap (λ (f : Fde). f.end) h.is.fde

  -- as can its range
  pub begin_fits : begun.fde.begin < address_limit t.size
  begin_fits = omega (arith, (stands_at t s h.bytes h.accepted ms h.are k d h.lt).in_space, some, begin_is)

  pub begins_below : begun.fde.begin ≤ begun.fde.end
  begins_below = omega (arith, some, begin_is, end_is)

  pub range_fits : begun.fde.end < begun.fde.begin + address_limit t.size
  range_fits =
      let own = changes_programs t s h.bytes h.accepted (fde_of m) (changes_of m) (all_get (IsMember t s) ms k d h.are.each h.lt) in
      omega (arith, range_low t s m.begin m.end own.0 own.1 own.2, begin_is, end_is)
