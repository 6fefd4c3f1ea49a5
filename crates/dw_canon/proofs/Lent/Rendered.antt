-- The normal form renders its section.
use Rattle.dw_section.proofs.Lent.Registers.{fdes_registers}
use Rattle.dw_canon.proofs.Words.{rules, ◌≡◌, ℕ, suc, ◌+◌, ◌-◌, ◌<◌, List, [], ◌∷◌, map, refl, sym, ap, ◌∙◌, subst, inl, inr, arith, AllByRecursion, AreBytes, address_limit, Target, CfaRule, FdeKept, Fde, Accepted}
use Rattle.dw_canon.proofs.Words.{AreChanges, AreFdes, ChangesOf, fde_in, HasGroup, GroupsRise, IsGroup, IsAmong, IsRendered, Renders, group_of, part_of, groups_of, parts_of, return_registers, initial_of}
use Rattle.dw_canon.proofs.{Words.{cie_instrs, fde_instrs, MemberStands, Member, fde_of, changes_of, IsMember, AreMembers, sound_section}, AscendingRegisters.{Rise, with_all_rise}, Lent.Differences.In}
use Rattle.dw_canon.proofs.{Lent.MemberPlaces.{member_fits, member_stands, group_fits, all_rest, all_both, IsSound, all_to}, Lent.Shared.{MemberFits, RestsOnAll}, ProgramLaws.{initial_program, member_program}}
use Rattle.dw_canon.proofs.Lent.Differences as lists
use Rattle.dw_canon.proofs.Lent.InstrFits as fitting

-- ---- the return address registers ascend

groups_rise : (t : Target) (ms : List Member) (low : ℕ) (rs : List ℕ) → Rise low rs → GroupsRise low (map (group_of t ms) rs)
groups_rise t ms low [] h = tt
groups_rise t ms low (r ∷ rs) h = (h.0, groups_rise t ms (suc r) rs h.1)

-- ---- groups

has_group : (t : Target) (ms : List Member) (r : ℕ) (rs : List ℕ) → In r rs → HasGroup (map (group_of t ms) rs) r (cie_instrs (initial_of ms r))
has_group t ms r [] i = absurd i
has_group t ms r (q ∷ rs) (inl is) = inl (sym is, ap (λ (n : ℕ). cie_instrs (initial_of ms n)) (sym is))
has_group t ms r (q ∷ rs) (inr i) = inr (has_group t ms r rs i)

groups_are : (t : Target) (ms : List Member) (rs : List ℕ) → AllByRecursion (MemberFits t) ms → AllByRecursion (λ (r : ℕ). r < 65536) rs → AllByRecursion (IsGroup t) (map (group_of t ms) rs)
groups_are t ms [] fits h = tt
groups_are t ms (r ∷ rs) fits h = search (rules, initial_program t (initial_of ms r) (group_fits t ms r fits), groups_are t ms rs fits h.1)

-- ---- FDEs

pub fde_is : (t : Target) (ms : List Member) (m : Member) → m.begin < m.end → fde_in (part_of t ms m) ≡ fde_of m
fde_is t ms m lt = search rules

fdes_are : (t : Target) (ms xs : List Member) → AllByRecursion (λ (m : Member). m.begin < m.end) xs → map fde_in (map (part_of t ms) xs) ≡ map fde_of xs
fdes_are t ms [] h = refl
fdes_are t ms (m ∷ xs) h = ap (λ (f : Fde). f ∷ map fde_in (map (part_of t ms) xs)) (fde_is t ms m h.0) ∙ ap (λ (l : List Fde). fde_of m ∷ l) (fdes_are t ms xs h.1)

registers_in : (ms : List Member) → AllByRecursion (λ (m : Member). In m.register (return_registers ms)) ms
registers_in ms = each ms (λ r i. lists.with_all r (map (λ (m : Member). m.register) ms) [] (inl i))
  where
    each : (xs : List Member) → ((r : ℕ) → In r (map (λ (m : Member). m.register) xs) → In r (return_registers ms)) → AllByRecursion (λ (m : Member). In m.register (return_registers ms)) xs
    each [] h = tt
    each (m ∷ xs) h = (h m.register (inl refl), each xs (λ r i. h r (inr i)))

-- ---- the whole

own_registers : (ms : List Member) → AllByRecursion (λ (f : Fde). f.return_register < 65536) (map fde_of ms) → AllByRecursion (λ (r : ℕ). r < 65536) (map (λ (m : Member). m.register) ms)
own_registers [] h = tt
own_registers (m ∷ ms) h = (h.0, own_registers ms h.1)

module _ (t : Target) (s : List ℕ) (b : AreBytes s) (ok : Accepted t s) (ms : List Member) (are : AreMembers t s ms) where
  sound : AllByRecursion (IsSound t) ms
  sound = each ms are.each (λ f i. i)
    where
      each : (xs : List Member) → AllByRecursion (IsMember t s) xs → ((f : Fde) → IsAmong f (map fde_of xs) → IsAmong f (map fde_of ms)) → AllByRecursion (IsSound t) xs
      each [] h inside = tt
      each (m ∷ xs) h inside = (sound_section t s b ok (map fde_of ms) (fde_of m) (changes_of m) are.fdes (inside (fde_of m) (inl refl)) h.0, each xs h.1 (λ f i. inside f (inr i)))

  pub nonempty : AllByRecursion (λ (m : Member). m.begin < m.end) ms
  nonempty = all_to (IsSound t) (λ (m : Member). m.begin < m.end) ms (λ m is. is.some) sound

  pub fits : AllByRecursion (MemberFits t) ms
  fits = all_to (IsSound t) (MemberFits t) ms (member_fits t) sound

  pub stand : AllByRecursion (λ (m : Member). MemberStands t (initial_of ms m.register) m) ms
  stand = all_both (λ (m : Member). RestsOnAll (initial_of ms m.register) (changes_of m)) (IsSound t) (λ (m : Member). MemberStands t (initial_of ms m.register) m) ms (λ m rests is. member_stands t (initial_of ms m.register) m is rests) (all_rest t ms fits) sound

  pub low_registers : AllByRecursion (λ (r : ℕ). r < 65536) (return_registers ms)
  low_registers = fitting.with_all (λ (r : ℕ). r < 65536) (map (λ (m : Member). m.register) ms) [] (own_registers ms (fdes_registers t s (map fde_of ms) are.fdes)) tt

  -- a member is rendered
  one_rendered : (m : Member) → IsMember t s m → m.begin < m.end → MemberStands t (initial_of ms m.register) m → In m.register (return_registers ms) → IsRendered t s (groups_of t ms) (part_of t ms m)
  one_rendered m is some stands i =
      let initial = initial_of ms m.register in
      let group = group_fits t ms m.register fits in
      let cie = initial_program t initial group in
      let law = member_program t initial m group stands in
      let end : m.end ≡ m.begin + (m.end - m.begin) = omega arith in
      record {
        spelled = law.0;
        initial = cie_instrs initial;
        group = has_group t ms m.register (return_registers ms) i;
        kept = subst (λ (c : CfaRule). FdeKept (address_limit t.size) m.begin c (fde_instrs initial m)) cie.2 law.1;
        changes = changes_of m;
        source = subst (λ (f : Fde). ChangesOf t s f (changes_of m)) (sym (fde_is t ms m some)) is;
        change = subst (λ (n : ℕ). AreChanges (cie_instrs initial) (fde_instrs initial m) m.begin n (changes_of m)) end law.2;
      }

  parts_rendered : (xs : List Member) → AllByRecursion (IsMember t s) xs → AllByRecursion (λ (m : Member). m.begin < m.end) xs → AllByRecursion (λ (m : Member). MemberStands t (initial_of ms m.register) m) xs
      → AllByRecursion (λ (m : Member). In m.register (return_registers ms)) xs → AllByRecursion (IsRendered t s (groups_of t ms)) (map (part_of t ms) xs)
  parts_rendered [] h k l i = tt
  parts_rendered (m ∷ xs) h k l i = (one_rendered m h.0 k.0 l.0 i.0, parts_rendered xs h.1 k.1 l.1 i.1)

  pub renders : Renders t s (groups_of t ms) (parts_of t ms)
  renders = grind (arith, fdes_are, nonempty, groups_rise, with_all_rise, groups_are, fits, low_registers, parts_rendered, stand, registers_in)
