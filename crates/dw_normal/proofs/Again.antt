-- An FDE that begins with a row of a CIE leaves the rows of the groups as they are, where another one with this row came before.
use Rattle.std.proofs.lemmas.Bool.Decides.{nat_tests}
use Rattle.dw_section.specs.declared.opening.CieRow.{CieRow}
use Rattle.dw_section.proofs.Lent.OpeningLaws.{Opened, Specifies, one_first, opened}
use Rattle.dw_canon.proofs.Lent.{Joins.{PartOf, first_part, joined_again, next_part}, Shared.MemberFits}
use Rattle.dw_normal.specs.declared.groups.Joined.{Joined}
use Rattle.dw_normal.proofs.Words.{◌≡◌, ℕ, zero, suc, ◌<◌, List, [], ◌∷◌, length, take, get_or, Option, Some, None, sym, ap, ◌∙◌, subst, arith}
use Rattle.dw_normal.proofs.Words.{IfSome, AllByRecursion, Target, AreBytes, agreed, Rules, Accepted, OpensBehind, RowFits, all_get, initial_of, group, kept_by, Member}
use Rattle.dw_normal.proofs.{Words.{AreMembers, IsMember, fde_of, group_fits, fits, nonempty, HasJoined, begun_with, initial_rows, joined_by, row_of, with_member}, Grouped.{found_in, look_members, some_of, written_twice}}

-- ---- what the row of a group is part of

part_then : (t : Target) (o : Option Rules) (m : Member) → IfSome o (RowFits t) → MemberFits t m → PartOf t (kept_by (begun_with o m.first) m.later) m.first
part_then t None m h k = first_part t m.first m.later k.0
part_then t (Some s) m h k = next_part t s m h k

all_taken : {X : Type 0} (P : X → Type 0) (n : ℕ) (xs : List X) → AllByRecursion P xs → AllByRecursion P (take n xs)
all_taken P zero xs h = tt
all_taken P (suc n) [] h = tt
all_taken P (suc n) (x ∷ xs) h = (h.0, all_taken P n xs h.1)

row_fits : (t : Target) (xs : List Member) (q : ℕ) → AllByRecursion (MemberFits t) xs → IfSome (row_of (initial_rows xs) q) (RowFits t)
row_fits t xs q h = rw (look_members (initial_of xs) q xs) (some_fits (group q xs))
  where
    some_fits : (ms : List Member) → IfSome (some_of (initial_of xs q) ms) (RowFits t)
    some_fits [] = tt
    some_fits (m ∷ ms) = group_fits t xs q h

-- ---- another FDE that begins with a row of a CIE

-- with the same first row, and later ones that specify what it does
again_same : (t : Target) (rows : List (ℕ × Rules)) (n m : Member) → IfSome (row_of rows n.register) (RowFits t) → MemberFits t n → m.register ≡ n.register → m.first ≡ n.first
    → AllByRecursion (λ (change : ℕ × Rules). Specifies change.1 m.first) m.later → with_member (with_member rows n) m ≡ with_member rows n
again_same t rows n m h k register first specify =
    let q = n.register in
    let v = kept_by (begun_with (row_of rows q) n.first) n.later in
    let all = subst (λ (x : Rules). AllByRecursion (λ (change : ℕ × Rules). Specifies change.1 x) m.later) first specify in
    let stays : kept_by (agreed v n.first) m.later ≡ v = joined_again t v n.first (part_then t (row_of rows q) n h k) k.0 m.later all in
    grind (arith, nat_tests, found_in q q v rows, written_twice q v rows, stays, register, first)

module _ (t : Target) (s : List ℕ) (b : AreBytes s) (ok : Accepted t s) (ms : List Member) (are : AreMembers t s ms) where
  pub opened_member : (d : Member) (k : ℕ) (row : CieRow) → k < length ms → (o : OpensBehind t s (fde_of (get_or ms k d)) row) → Opened o.initial row.cfa_offset ((get_or ms k d).begin, (get_or ms k d).first) (get_or ms k d).later
  opened_member d k row lt o =
      let m = get_or ms k d in
      let is = all_get (IsMember t s) ms k d are.each lt in
      let some : m.begin < m.end = all_get (λ (n : Member). n.begin < n.end) ms k d (nonempty t s b ok ms are) lt in
      opened t s b ok (fde_of m) row (m.begin, m.first) m.later o some is

  pub joined : (d : Member) (place k : ℕ) (row : CieRow) → place < length ms → k < length ms → (rows : List (ℕ × Rules)) → rows ≡ initial_rows (take place ms) → OpensBehind t s (fde_of (get_or ms place d)) row
      → OpensBehind t s (fde_of (get_or ms k d)) row → (get_or ms k d).register ≡ (get_or ms place d).register → with_member (with_member rows (get_or ms place d)) (get_or ms k d) ≡ with_member rows (get_or ms place d)
  joined d place k row lt less rows is o p register =
      let n = get_or ms place d in
      let m = get_or ms k d in
      let own = opened_member d place row lt o in
      let other = opened_member d k row less p in
      let all = fits t s b ok ms are in
      let first : m.first ≡ n.first = one_first t s b ok (fde_of m) (fde_of n) row (m.begin, m.first) (n.begin, n.first) m.later n.later p o other own in
      let here = subst (λ (l : List (ℕ × Rules)). IfSome (row_of l n.register) (RowFits t)) (sym is) (row_fits t (take place ms) n.register (all_taken (MemberFits t) place ms all)) in
      again_same t rows n m here (all_get (MemberFits t) ms place d all lt) register first other.specify

-- ---- what a group was joined with

pub joined_is : (t : Target) (s : List ℕ) (rows : List (ℕ × Rules)) (joined : Option Joined) (row : Option CieRow) (register : ℕ) → (own : CieRow) × (row ≡ Some own) × (joined ≡ Some (record { row = own; register = register }))
    → HasJoined t s rows joined → (ms : List Member) → AreMembers t s ms → (d : Member) (k : ℕ) → k < length ms → IfSome row (OpensBehind t s (fde_of (get_or ms k d))) → (get_or ms k d).register ≡ register
    → with_member rows (get_or ms k d) ≡ rows
joined_is t s rows joined row register x has ms are d k lt opens same = grind arith

pub then_joined : (t : Target) (s : List ℕ) → AreBytes s → Accepted t s → (place register : ℕ) (row : Option CieRow) (old new : List (ℕ × Rules)) → ((ms : List Member) → AreMembers t s ms → place < length ms)
    → ((ms : List Member) → AreMembers t s ms → (d : Member) → IfSome row (OpensBehind t s (fde_of (get_or ms place d)))) → ((ms : List Member) → AreMembers t s ms → old ≡ initial_rows (take place ms))
    → ((ms : List Member) → AreMembers t s ms → (d : Member) → new ≡ with_member old (get_or ms place d)) → ((ms : List Member) → AreMembers t s ms → (d : Member) → (get_or ms place d).register ≡ register)
    → HasJoined t s new (joined_by row register)
then_joined t s b ok place register None old new lt opens rows made own = tt
then_joined t s b ok place register (Some row) old new lt opens rows made own = λ ms are d k less p same.
    let m = get_or ms k d in
    let is = made ms are d in
    ap (λ (l : List (ℕ × Rules)). with_member l m) is ∙ joined t s b ok ms are d place k row (lt ms are) less old (rows ms are) (opens ms are d) p (same ∙ sym (own ms are d)) ∙ sym is
