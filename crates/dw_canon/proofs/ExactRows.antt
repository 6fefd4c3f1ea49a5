-- An FDE of a normal form starts as many rows as it has changes.
use Rattle.dw_canon.proofs.Words.{◌≡◌, ℕ, ◌+◌, ◌<◌, ◌≤◌, List, [], ◌∷◌, ◌++◌, map, length, sym, ap, ◌∙◌, subst, arith, AllByRecursion, AreBytes, Target, Rules, row_starts, nops, row_starts_nops, Fde, Accepted, ChangesOf, one_change_list}
use Rattle.dw_canon.proofs.Words.{one_programs, Group, Part, fde_in, laid, section_bytes, IsPartOf, IsRendered, Renders, part_of, initial_of, MemberStands, Member, IsMember, programs_rules, row_exists, rules_covered}
use Rattle.dw_canon.proofs.{Lent.MemberPlaces.group_fits, Lent.Readback.{bn, in_n, listed_part, okn, part_in, part_listed, part_there, reads_back}, Lent.Rendered.fde_is, Lent.Shared.MemberFits, ProgramLaws.member_program}

-- ---- parts

-- a part starts as many rows as the section's FDE has changes
pub record Exact (t : Target) (s : List ℕ) (p : Part) : Type 0 where
  pub changes : List (ℕ × Rules)
  pub source : ChangesOf t s (fde_in p) changes
  pub starts : row_starts p.instrs ≡ length changes

pub all_exact : (t : Target) (s : List ℕ) (ms xs : List Member) → AllByRecursion (MemberFits t) ms → AllByRecursion (λ (m : Member). m.begin < m.end) xs → AllByRecursion (IsMember t s) xs
    → AllByRecursion (λ (m : Member). MemberStands t (initial_of ms m.register) m) xs → AllByRecursion (Exact t s) (map (part_of t ms) xs)
all_exact t s ms [] fits some is stands = tt
all_exact t s ms (m ∷ xs) fits some is stands = grind (arith, member_program t (initial_of ms m.register) m (group_fits t ms m.register fits) stands.0, fde_is t ms m some.0, all_exact t s ms xs fits some.1 is.1 stands.1)

-- ---- the FDE

-- the changes of an FDE are those of any other of its range
same_range : (t : Target) (s : List ℕ) (f g : Fde) (changes : List (ℕ × Rules)) → f.begin ≡ g.begin → f.end ≡ g.end → ChangesOf t s g changes → ChangesOf t s f changes
same_range t s f g changes begin end h = record { initial = h.initial; instrs = h.instrs; says = rw (begin, end) h.says; change = rw (begin, end) h.change }

-- an FDE begins in a part's range where it begins in that of the part's FDE
begins_in : (f g : Fde) (p : Part) → g ≡ fde_in p → g.begin ≤ f.begin → f.begin < g.end → (p.begin ≤ f.begin) × (f.begin < p.begin + p.range)
begins_in f g p is le lt = (subst (λ (x : Fde). x.begin ≤ f.begin) is le, subst (λ (x : Fde). f.begin < x.end) is lt)

module _ (t : Target) (s : List ℕ) (gs : List Group) (ps : List Part) (b : AreBytes s) (ok : Accepted t s) (r : Renders t s gs ps) (small : length (section_bytes t (laid t gs ps)) ≤ 2147483647) where
  abbrev n : List ℕ
  n = section_bytes t (laid t gs ps)

  bytes : AreBytes n
  bytes = bn t s gs ps b ok r small

  accepted : Accepted t n
  accepted = okn t s gs ps b ok r small

  -- an FDE that begins in a part's range
  of_part : (p : Part) → IsRendered t s gs p → IsPartOf p ps → Exact t s p → (f : Fde) (changes : List (ℕ × Rules)) → p.begin ≤ f.begin → f.begin < p.begin + p.range → f.begin < f.end → (h : ChangesOf t n f changes)
      → row_starts h.instrs ≡ length changes
  of_part p rendered i exact f changes le lt some h =
      let there = part_there t s gs ps b ok r small p rendered i in
      let same = one_programs t n bytes accepted f.begin f.begin f.end p.begin (p.begin + p.range) h.initial h.instrs (rendered.initial ++ nops there.m) (p.instrs ++ nops there.k) (omega arith) some le lt h.says there.there in
      let back = ((reads_back t s gs ps b ok r small).changes (map fde_in ps) (fde_in p) exact.changes r.fdes (listed_part p ps i)).0 exact.source in
      let one = one_change_list t n bytes accepted f changes exact.changes some h (same_range t n f (fde_in p) exact.changes same.begins same.ends back) in
      ap row_starts same.instrs ∙ row_starts_nops p.instrs there.k ∙ exact.starts ∙ ap length (sym one)

  -- any FDE begins in some part's
  pub laid_exact : AllByRecursion (Exact t s) ps → (f : Fde) (changes : List (ℕ × Rules)) → f.begin < f.end → (h : ChangesOf t n f changes) → row_starts h.instrs ≡ length changes
  laid_exact exact f changes some h =
      let row = row_exists t n bytes accepted f.begin f.end f.begin h.initial h.instrs h.says (omega arith) in
      let rules = programs_rules t n f.begin row.0 f.begin f.end h.initial h.instrs h.says (omega arith) some row.1 in
      let covered = rules_covered t n bytes accepted (map fde_in ps) f.begin row.0 (in_n t s gs ps b ok r small) rules in
      let part = part_listed covered.0 ps covered.1 in
      let p = part.0 in
      let within = begins_in f covered.0 p part.2 covered.2.0 covered.2.1 in
      of_part p (part_in (IsRendered t s gs) ps p r.parts part.1) part.1 (part_in (Exact t s) ps p exact part.1) f changes within.0 within.1 some h
