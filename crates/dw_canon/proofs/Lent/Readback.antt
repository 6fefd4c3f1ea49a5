-- What is written of an accepted section means the same when it is read back.
use Rattle.dw_section.specs.Headers as head
use Rattle.dw_section.proofs.Lent.FieldTable.{fde_said}
use Rattle.dw_canon.proofs.Words.{rules, ◌≡◌, ℕ, ◌+◌, ◌<◌, ◌≤◌, ◌^◌, List, [], ◌∷◌, ◌++◌, length, map, refl, sym, ap, subst, arith, inl, inr, AllByRecursion, AllZip, Size, Four, Eight, Target, AreBytes, address_limit, byte_count, Instr}
use Rattle.dw_canon.proofs.Words.{Fde, Accepted, Piece, Head, Has, FdeSays, Lists, AreFdes, Range, AreApart, end_of, cie_places, all_in, one_fdes, AgreeAt, Agree, Group, Part, laid, fde_in, IsPart, PartsApart, IsLaid, IsPartOf}
use Rattle.dw_canon.proofs.Words.{IsAmong, IsRendered, Renders, ReadsBack, Readback, section_bytes, agree_nops, agree_then, cfa_agree, nops, agree_changes, AllAgree, all_agree_sym, same_meaning, changes_there, fdes_zip, one_programs}
use Rattle.dw_canon.proofs.{Words.{cfa_programs, begin_low, listed_programs, changes_programs}, Accepts.{written_accepted, written_fdes}, Bytes.section_are_bytes, Lays.{laid_section, laid_fdes, part_member}, Means.{padded, padded_says}}

-- ---- a range fits its field

abbrev RangeFits : Target → Head → Type 0
RangeFits target (head.cie c) = Unit {0}
RangeFits target (head.fde f) = f.range < address_limit target.size

limit_is : (size : Size) → 256 ^ byte_count size ≡ address_limit size
limit_is Four = refl
limit_is Eight = refl

has_range : (target : Target) (places : List ℕ) (p : Piece) (h : Head) → Has target places p h → RangeFits target h
has_range target places p h (inl c) = subst (RangeFits target) (sym c.3) tt
has_range target places p h (inr c) = subst (RangeFits target) (sym c.3) (subst (λ (n : ℕ). c.0.range < n) (limit_is target.size) (fde_said target places p.form c.0 c.2.1.spelling c.2.1.spells).range_fits)

all_range : (target : Target) (places : List ℕ) (ps : List Piece) (hs : List Head) → AllZip (Has target places) ps hs → AllByRecursion (RangeFits target) hs
all_range target places [] [] z = tt
all_range target places (p ∷ ps) (h ∷ hs) z = (has_range target places p h z.0, all_range target places ps hs z.1)
all_range target places ps hs z = absurd z

pub range_low : (target : Target) (s : List ℕ) (begin end : ℕ) (i j : List Instr) → FdeSays target s begin end i j → end < begin + address_limit target.size
range_low target s begin end i j h = search (rules, all_in (RangeFits target) h.headers (head.fde h.head) (all_range target (cie_places h.are.entries) h.are.entries h.headers h.are.each) h.among)

-- ---- parts are apart

later_parts : (hs : List Head) (end : ℕ) (rs : List Range) (ps : List Part) → AllZip (Lists hs) rs (map fde_in ps) → AllByRecursion (λ (b : Range). end ≤ b.begin) rs → AllByRecursion (λ (q : Part). end ≤ q.begin) ps
later_parts hs end [] [] z h = tt
later_parts hs end (r ∷ rs) (p ∷ ps) z h = (omega (arith, h.0, z.0.begin), later_parts hs end rs ps z.1 h.1)
later_parts hs end rs ps z h = absurd z

parts_apart : (hs : List Head) (rs : List Range) (ps : List Part) → AllZip (Lists hs) rs (map fde_in ps) → AreApart rs → PartsApart ps
parts_apart hs [] [] z h = tt
parts_apart hs (r ∷ rs) (p ∷ ps) z h =
    let end : p.begin + p.range ≡ end_of r = z.0.end in
    (subst (λ (n : ℕ). AllByRecursion (λ (q : Part). n ≤ q.begin) ps) (sym end) (later_parts hs (end_of r) rs ps z.1 h.0), parts_apart hs rs ps z.1 h.1)
parts_apart hs rs ps z h = absurd z

-- ---- members

pub listed_part : (p : Part) (ps : List Part) → IsPartOf p ps → IsAmong (fde_in p) (map fde_in ps)
listed_part p [] i = absurd i
listed_part p (q ∷ ps) (inl is) = inl (ap fde_in is)
listed_part p (q ∷ ps) (inr i) = inr (listed_part p ps i)

pub part_listed : (f : Fde) (ps : List Part) → IsAmong f (map fde_in ps) → (p : Part) × IsPartOf p ps × (f ≡ fde_in p)
part_listed f [] i = absurd i
part_listed f (q ∷ ps) (inl is) = (q, inl refl, is)
part_listed f (q ∷ ps) (inr i) = let rest = part_listed f ps i in (rest.0, inr rest.1, rest.2)

all_parts : (P Q : Part → Type 0) (ps qs : List Part) → ((p : Part) → IsPartOf p qs → P p → Q p) → ((p : Part) → IsPartOf p ps → IsPartOf p qs) → AllByRecursion P ps → AllByRecursion Q ps
all_parts P Q [] qs to into h = tt
all_parts P Q (p ∷ ps) qs to into h = (to p (into p (inl refl)) h.0, all_parts P Q ps qs to (λ q i. into q (inr i)) h.1)

pub part_in : (P : Part → Type 0) (ps : List Part) (p : Part) → AllByRecursion P ps → IsPartOf p ps → P p
part_in P [] p h i = absurd i
part_in P (q ∷ ps) p h (inl is) = subst P (sym is) h.0
part_in P (q ∷ ps) p h (inr i) = part_in P ps p h.1 i

-- ---- the whole

module _ (target : Target) (s : List ℕ) (gs : List Group) (ps : List Part) (b : AreBytes s) (ok : Accepted target s) (r : Renders target s gs ps) where
  rendered_part : (p : Part) → IsPartOf p ps → IsRendered target s gs p → IsPart target gs p
  rendered_part p i h =
      let listed = listed_programs target s b ok (map fde_in ps) (fde_in p) r.fdes (listed_part p ps i) in
      let own = changes_programs target s b ok (fde_in p) h.changes h.source in
      let low = begin_low target s b ok p.begin (p.begin + p.range) own.0 own.1 own.2 in
      let range = range_low target s p.begin (p.begin + p.range) own.0 own.1 own.2 in
      record {
        some = omega (arith, listed.0);
        range_fits = omega arith;
        begin_fits = low.0;
        in_space = low.1;
        spelled = h.spelled;
        initial = h.initial;
        group = h.group;
        kept = h.kept;
        has_cfa = λ a from below.
            cfa_agree p.begin a own.0 own.1 h.initial p.instrs from (agree_changes p.begin (p.begin + p.range) own.0 own.1 h.initial p.instrs h.changes own.3 h.change a from below)
            (cfa_programs target s b ok p.begin (p.begin + p.range) a own.0 own.1 own.2 from below);
      }

  module _ (small : length (section_bytes target (laid target gs ps)) ≤ 2147483647) where
    pub rendered_laid : IsLaid target gs ps
    rendered_laid = record {
      small = small;
      rise = r.rise;
      groups = r.groups;
      parts = all_parts (IsRendered target s gs) (IsPart target gs) ps ps rendered_part (λ p i. i) r.parts;
      apart = parts_apart (ok.1.0) ok.0 ps (fdes_zip target s b ok (map fde_in ps) r.fdes) ok.2;
    }

    abbrev pub n : List ℕ
    n = section_bytes target (laid target gs ps)

    pub bn : AreBytes n
    bn = let is = laid_section target gs ps rendered_laid in section_are_bytes target (laid target gs ps) is.fits is.runs

    pub okn : Accepted target n
    okn = written_accepted target (laid target gs ps) (laid_section target gs ps rendered_laid)

    pub in_n : AreFdes target n (map fde_in ps)
    in_n = written_fdes target (laid target gs ps) (laid_section target gs ps rendered_laid) (map fde_in ps) (laid_fdes target gs ps rendered_laid)

    -- the programs of a part as they stand in what was written
    pub record PartThere (p : Part) (initial : List Instr) : Type 0 where
      pub m : ℕ
      pub k : ℕ
      pub there : FdeSays target n p.begin (p.begin + p.range) (initial ++ nops m) (p.instrs ++ nops k)

    pub part_there : (p : Part) (h : IsRendered target s gs p) → IsPartOf p ps → PartThere p h.initial
    part_there p h i =
        let ws = laid target gs ps in
        let is = laid_section target gs ps rendered_laid in
        let member = part_member target gs ps rendered_laid p h.initial i h.group in
        let x = padded target ws is p.begin p.range h.initial p.instrs member in
        record {
          m = x.m;
          k = x.n;
          there = padded_says target ws is p.begin p.range h.initial p.instrs x;
        }

    part_agree : (p : Part) → IsRendered target s gs p → IsPartOf p ps → (i j k l : List Instr) → FdeSays target s p.begin (p.begin + p.range) i j → FdeSays target n p.begin (p.begin + p.range) k l
        → Agree p.begin (p.begin + p.range) i j k l
    part_agree p h member i j k l v w a le lt =
        let own = changes_programs target s b ok (fde_in p) h.changes h.source in
        let x = part_there p h member in
        let end = p.begin + p.range in
        let mine = one_programs target s b ok a p.begin end p.begin end own.0 own.1 i j le lt le lt own.2 v in
        let theirs = one_programs target n bn okn a p.begin end p.begin end (h.initial ++ nops x.m) (p.instrs ++ nops x.k) k l le lt le lt x.there w in
        let all = agree_then p.begin a own.0 own.1 h.initial p.instrs (h.initial ++ nops x.m) (p.instrs ++ nops x.k) le
        (agree_changes p.begin end own.0 own.1 h.initial p.instrs h.changes own.3 h.change a le lt) (agree_nops p.begin a h.initial p.instrs x.m x.k) in
        subst (λ (q : List Instr). AgreeAt p.begin i j k q a) theirs.instrs
        (subst (λ (q : List Instr). AgreeAt p.begin i j q (p.instrs ++ nops x.k) a) theirs.initials
        (subst (λ (q : List Instr). AgreeAt p.begin i q (h.initial ++ nops x.m) (p.instrs ++ nops x.k) a) mine.instrs
        (subst (λ (q : List Instr). AgreeAt p.begin q own.1 (h.initial ++ nops x.m) (p.instrs ++ nops x.k) a) mine.initials all)))

    all_agree : AllAgree target s n (map fde_in ps)
    all_agree f listed i j k l v w =
        let q = part_listed f ps listed in
        let p = q.0 in
        let h = part_in (IsRendered target s gs) ps p r.parts q.1 in
        subst (λ (g : Fde). Agree g.begin g.end i j k l) (sym q.2)
        (part_agree p h q.1 i j k l (subst (λ (g : Fde). FdeSays target s g.begin g.end i j) q.2 v) (subst (λ (g : Fde). FdeSays target n g.begin g.end k l) q.2 w))

    pub reads_back : ReadsBack target s n
    reads_back = record {
      bytes = bn;
      accepted = okn;
      meaning = same_meaning target s n b bn ok okn (map fde_in ps) r.fdes in_n all_agree;
      changes = λ fs f changes are listed.
          let same = one_fdes target s fs (map fde_in ps) are r.fdes in
          let mine = subst (IsAmong f) same listed in (
            changes_there target s n b bn ok okn (map fde_in ps) r.fdes in_n all_agree f changes mine,
            changes_there target n s bn b okn ok (map fde_in ps) in_n r.fdes (all_agree_sym target s n (map fde_in ps) all_agree) f changes mine,
          );
    }

pub readback : Readback
readback target s gs ps b ok r small = reads_back target s gs ps b ok r small
