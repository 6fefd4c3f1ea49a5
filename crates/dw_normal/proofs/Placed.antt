-- What is so of an FDE of a table, and of the initial row of its group.
use Rattle.dw_normal.proofs.Words.{◌≡◌, ℕ, zero, suc, ◌<◌, ◌≤◌, List, [], ◌∷◌, length, map, get_or, Option, Some, refl, sym, ap, ◌∙◌, subst, arith, IsSome, nat_eq, get_or-map, AllByRecursion, cases_Bool, eq-eqb, length-map}
use Rattle.dw_normal.proofs.Words.{AreBytes, address_limit, Target, Rules, Accepted, Fde, AreFdes, RowFits, all_get, return_registers, cie_instrs, initial_of, difference, ChangesStand, MemberStands, InstrFits, group, Member, fde_of}
use Rattle.dw_normal.proofs.{Words.{AreMembers, difference_fits, cie_fits, fits, stand, group_fits, initial_rows, row_of, IsBegun, IsReady, IsShown, shown_row, Begun, members_exist, StandsApart}, Grouped.{some_of, look_members, no_member}}

-- ---- the group of an FDE is not empty

own_group : (row : Rules) (r : ℕ) (ms : List Member) (k : ℕ) (d : Member) → k < length ms → (get_or ms k d).register ≡ r → some_of row (group r ms) ≡ Some row
own_group row r [] k d lt own = absurd (omega arith)
own_group row r (m ∷ ms) zero d lt own = rw (eq-eqb m.register r own) refl
own_group row r (m ∷ ms) (suc k) d lt own = grind (arith, cases_Bool (nat_eq m.register r), nat_eq m.register r, own_group row r ms k d (omega arith) own)

-- ---- changes below an end

pub stand_within : (t : Target) (initial : Rules) (end limit : ℕ) → end ≤ limit → (at : ℕ) (row : Rules) (changes : List (ℕ × Rules)) → ChangesStand t initial end at row changes → ChangesStand t initial limit at row changes
stand_within t initial end limit le at row [] h = omega (arith, le, h)
stand_within t initial end limit le at row (change ∷ changes) h = (h.0, h.1, h.2, stand_within t initial end limit le change.0 change.1 changes h.3)

-- ---- an FDE by its place

pub below : {t : Target} {s : List ℕ} {ms : List Member} (place : ℕ) → AreMembers t s ms → ((fs : List Fde) → AreFdes t s fs → place < length fs) → place < length ms
below {ms = ms} place are is = subst (λ (n : ℕ). place < n) (length-map ms fde_of) (is (map fde_of ms) are.fdes)

pub as_many : {t : Target} {s : List ℕ} {count : ℕ} {ms : List Member} → AreMembers t s ms → ((fs : List Fde) → AreFdes t s fs → count ≡ length fs) → count ≡ length ms
as_many {ms = ms} are is = is (map fde_of ms) are.fdes ∙ length-map ms fde_of

pub same_row : (o : Option Rules) (x y : Rules) → o ≡ Some x → o ≡ Some y → x ≡ y
same_row o x y e f = let both : Some x ≡ Some y = sym e ∙ f in cc

module _ (t : Target) (s : List ℕ) (b : AreBytes s) (ok : Accepted t s) (ms : List Member) (are : AreMembers t s ms) where
  -- the CIE's program of each initial row can be spelled
  pub rows_fit : {u : Target} {rows : List (ℕ × Rules)} → u ≡ t → rows ≡ initial_rows ms → AllByRecursion (λ (entry : ℕ × Rules). AllByRecursion (InstrFits u) (cie_instrs entry.1)) rows
  rows_fit same rows_are = rw (same, rows_are) (each (return_registers ms))
    where
      each : (rs : List ℕ) → AllByRecursion (λ (entry : ℕ × Rules). AllByRecursion (InstrFits t) (cie_instrs entry.1)) (map {B = ℕ × Rules} (λ (r : ℕ). (r, initial_of ms r)) rs)
      each [] = tt
      each (r ∷ rs) = (cie_fits t (initial_of ms r) (group_fits t ms r (fits t s b ok ms are)), each rs)

  module _ (k : ℕ) (d : Member) (lt : k < length ms) where
    abbrev m : Member
    m = get_or ms k d

    abbrev initial : Rules
    initial = initial_of ms m.register

    pub stands_at : MemberStands t initial m
    stands_at = all_get (λ (n : Member). MemberStands t (initial_of ms n.register) n) ms k d (stand t s b ok ms are) lt

    pub initial_at : RowFits t initial
    initial_at = group_fits t ms m.register (fits t s b ok ms are)

    -- what leads to its first row can be spelled
    pub first_at : AllByRecursion (InstrFits t) (difference initial initial m.first)
    first_at = difference_fits t initial initial m.first initial_at stands_at.first.fits stands_at.first.rests

    -- its group has a row among the initial ones
    pub row_at : row_of (initial_rows ms) m.register ≡ Some initial
    row_at = look_members (initial_of ms) m.register ms ∙ own_group initial m.register ms k d lt refl

    -- and among rows that are these
    pub row_in : (rows : List (ℕ × Rules)) (r : ℕ) → rows ≡ initial_rows ms → r ≡ m.register → row_of rows r ≡ Some initial
    row_in rows r are own = ap (λ (l : List (ℕ × Rules)). row_of l r) are ∙ ap (row_of (initial_rows ms)) own ∙ row_at

    pub ready_at : (begun : Begun) → IsBegun ms m begun → IsShown begun.changes → StandsApart begun.apart begun.shared.now (shown_row begun.changes) → IsReady t begun
    ready_at begun is shown apart = grind (arith, difference, shown_row, first_at, stand, fits, stands_at, stand_within, address_limit)

-- ---- the initial row of an FDE that the table lists

module _ {t : Target} {s : List ℕ} (b : AreBytes s) (ok : Accepted t s) {rows : List (ℕ × Rules)} (rows_are : (ms : List Member) → AreMembers t s ms → rows ≡ initial_rows ms)
    {k : ℕ} (lt : (fs : List Fde) → AreFdes t s fs → k < length fs) {f : Fde} (is : (fs : List Fde) → AreFdes t s fs → (d : Fde) → f ≡ get_or fs k d) where
  pub listed_row : (ms : List Member) → AreMembers t s ms → (d : Member) → row_of rows f.return_register ≡ Some (initial_of ms (get_or ms k d).register)
  listed_row ms are d =
      let same = is (map fde_of ms) are.fdes (fde_of d) ∙ get_or-map fde_of ms k d in
      row_in t s b ok ms are k d (below k are lt) rows f.return_register (rows_are ms are) (ap (λ (g : Fde). g.return_register) same)

  pub listed_some : IsSome (row_of rows f.return_register)
  listed_some = let some = members_exist t s b ok in subst (λ (o : Option Rules). IsSome o) (sym (listed_row some.0 some.1 no_member)) refl
