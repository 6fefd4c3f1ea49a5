-- The laws of normal forms.
use Rattle.dw_canon.proofs.Words.{◌≡◌, ℕ, ◌<◌, ◌≤◌, List, [], ◌∷◌, ◌++◌, map, length, refl, sym, ap, ◌∙◌, subst, inl, inr, ◌↔◌, AllByRecursion, AreBytes, Target, Rules, row_starts, Fde, Accepted, AreChanges, AreFdes, ChangesOf, RowStarts}
use Rattle.dw_canon.proofs.Words.{rules, total, one_fdes, IsAmong, ReadsBack, fdes_exist, listed_programs, one_change_list, Group, Part, cie_of, laid, Written, section_bytes, least_starts, part_of, groups_of, parts_of, canon, initial_of}
use Rattle.dw_canon.proofs.Words.{MemberStands, Member, fde_of, changes_of, IsMember, AreMembers, IsNormalForm, Agree, HoldsAt, agree_row, changes_agree, one_rules, programs_rules, row_exists, arith}
use Rattle.dw_section.specs.Meanings.{SameMeaning}
use Rattle.dw_section.proofs.Lent.Exists.{listed_change, meaning_changes}
use Rattle.dw_canon.specs.Laws.{NormalFormExists, NormalFormIsOne, MeaningIsKept, NormalAgain, SameNormalForm, FewestRows, ExactRows, NormalRows, NoneFewer}
use Rattle.dw_canon.proofs.{Lent.Extra.{starts_of, written_starts}, Lays.laid_section, Lent.Readback.rendered_laid, ExactRows.{all_exact, laid_exact}, Kept.reads_back, Lent.Forms.{is_normal, whole_is}, Lent.Layout.laid_is}
use Rattle.dw_canon.proofs.{ProgramLaws.member_program, Lent.Rendered.{renders, fits, stand}, Lent.Shared.MemberFits, Lent.MemberPlaces.group_fits}
use Rattle.dw_canon.specs.Inner.Laid as layout
use Rattle.dw_canon.proofs.Lent.Rendered as rendered

-- ---- members exist

-- an FDE with its changes as a member
record Made (t : Target) (s : List ℕ) (f : Fde) : Type 0 where
  member : Member
  is : IsMember t s member
  of : fde_of member ≡ f

made_of : (t : Target) (s : List ℕ) (f : Fde) (changes : List (ℕ × Rules)) (h : ChangesOf t s f changes) → AreChanges h.initial h.instrs f.begin f.end changes → Made t s f
made_of t s f [] h c = absurd c
made_of t s f (first ∷ later) h c =
    let m : Member = record { begin = f.begin; end = f.end; register = f.return_register; first = first.1; later = later } in
    let same : (first ∷ later) ≡ changes_of m = ap (λ (n : ℕ). (n, first.1) ∷ later) c.0 in
    record { member = m; is = subst (ChangesOf t s f) same h; of = refl }

members_of : (t : Target) (s : List ℕ) (fs : List Fde) → ((f : Fde) → IsAmong f fs → Made t s f) → (ms : List Member) × (map fde_of ms ≡ fs) × AllByRecursion (IsMember t s) ms
members_of t s [] h = ([], refl, tt)
members_of t s (f ∷ fs) h =
    let one = h f (inl refl) in
    let rest = members_of t s fs (λ g i. h g (inr i)) in
    (one.member ∷ rest.0, ap (λ (g : Fde). g ∷ map fde_of rest.0) one.of ∙ ap (λ (l : List Fde). f ∷ l) rest.1, (one.is, rest.2))

pub members_exist : (t : Target) (s : List ℕ) → AreBytes s → Accepted t s → (ms : List Member) × AreMembers t s ms
members_exist t s b ok = search (rules, fdes_exist t s b ok, members_of t s (fdes_exist t s b ok).0 (λ f i. let c = listed_change t s b ok (fdes_exist t s b ok).0 f (fdes_exist t s b ok).1 i in made_of t s f c.0 c.1 c.1.change))

-- ---- and are one list

member_is : (m k : Member) → fde_of m ≡ fde_of k → changes_of m ≡ changes_of k → m ≡ k
member_is m k same changes = search rules

head_is : (m k : Member) (ms ks : List Member) → map fde_of (m ∷ ms) ≡ map fde_of (k ∷ ks) → fde_of m ≡ fde_of k
head_is m k ms ks e = cc

tail_is : (m k : Member) (ms ks : List Member) → map fde_of (m ∷ ms) ≡ map fde_of (k ∷ ks) → map fde_of ms ≡ map fde_of ks
tail_is m k ms ks e = cc

one_list : (t : Target) (s : List ℕ) (b : AreBytes s) (ok : Accepted t s) (ms ks : List Member) → map fde_of ms ≡ map fde_of ks → AllByRecursion (λ (m : Member). m.begin < m.end) ms
    → AllByRecursion (IsMember t s) ms → AllByRecursion (IsMember t s) ks → ms ≡ ks
one_list t s b ok [] [] e some h k = refl
one_list t s b ok (m ∷ ms) (x ∷ ks) e some h k =
    let same = head_is m x ms ks e in
    let there = subst (λ (f : Fde). ChangesOf t s f (changes_of x)) (sym same) k.0 in
    let changes = one_change_list t s b ok (fde_of m) (changes_of m) (changes_of x) some.0 h.0 there in
    let first = member_is m x same changes in
    let rest = one_list t s b ok ms ks (tail_is m x ms ks e) some.1 h.1 k.1 in
    ap (λ (y : Member). y ∷ ms) first ∙ ap (λ (l : List Member). x ∷ l) rest
one_list t s b ok ms ks e some h k = absurd cc

nonempty : (t : Target) (s : List ℕ) (b : AreBytes s) (ok : Accepted t s) (ms xs : List Member) → AreFdes t s (map fde_of ms) → ((f : Fde) → IsAmong f (map fde_of xs) → IsAmong f (map fde_of ms)) → AllByRecursion (λ (m : Member). m.begin < m.end) xs
nonempty t s b ok ms [] are into = tt
nonempty t s b ok ms (m ∷ xs) are into = ((listed_programs t s b ok (map fde_of ms) (fde_of m) are (into (fde_of m) (inl refl))).0, nonempty t s b ok ms xs are (λ f i. into f (inr i)))

pub one_members : (t : Target) (s : List ℕ) → AreBytes s → Accepted t s → (ms ks : List Member) → AreMembers t s ms → AreMembers t s ks → ms ≡ ks
one_members t s b ok ms ks h k = one_list t s b ok ms ks (one_fdes t s (map fde_of ms) (map fde_of ks) h.fdes k.fdes) (nonempty t s b ok ms ms h.fdes (λ f i. i)) h.each k.each

-- ---- members of a section that says the same

members_there : (t : Target) (s n : List ℕ) (fs : List Fde) (xs : List Member) → ((f : Fde) → IsAmong f (map fde_of xs) → IsAmong f fs)
    → ((f : Fde) (changes : List (ℕ × Rules)) → IsAmong f fs → ChangesOf t s f changes → ChangesOf t n f changes) → AllByRecursion (IsMember t s) xs → AllByRecursion (IsMember t n) xs
members_there t s n fs [] into to h = tt
members_there t s n fs (m ∷ xs) into to h = (to (fde_of m) (changes_of m) (into (fde_of m) (inl refl)) h.0, members_there t s n fs xs (λ f i. into f (inr i)) to h.1)

-- ---- the laws

pub normal_form_exists : NormalFormExists
normal_form_exists t s b ok = let found = members_exist t s b ok in (canon t found.0, is_normal t s found.0 b ok found.1)

pub normal_form_is_one : NormalFormIsOne
normal_form_is_one t s n m b h k = whole_is t s n b h ∙ ap (canon t) (one_members t s b h.accepted h.members k.members h.are k.are) ∙ sym (whole_is t s m b k)

back : (t : Target) (s n : List ℕ) → AreBytes s → IsNormalForm t s n → length n ≤ 2147483647 → ReadsBack t s n
back t s n b h small =
    let whole = whole_is t s n b h in
    subst (ReadsBack t s) (sym whole) (reads_back t s b h.accepted h.members h.are (subst (λ (l : List ℕ). length l ≤ 2147483647) whole small))

pub meaning_is_kept : MeaningIsKept
meaning_is_kept t s n b h small = let r = back t s n b h small in (r.bytes, r.accepted, r.meaning)

-- the normal form of a section is that of another with the same members
moved : (t : Target) (s u n : List ℕ) (h : IsNormalForm t s n) → Accepted t u → AreMembers t u h.members → IsNormalForm t u n
moved t s u n h ok are = search rules

pub normal_again : NormalAgain
normal_again t s n b h small =
    let r = back t s n b h small in
    moved t s n n h r.accepted (record {
      fdes = (r.meaning.fdes (map fde_of h.members)).0 h.are.fdes;
      each = members_there t s n (map fde_of h.members) h.members (λ f i. i) (λ f changes i. (r.changes (map fde_of h.members) f changes h.are.fdes i).0) h.are.each;
    })

same_back : (t : Target) (a b : List ℕ) → SameMeaning t a b → SameMeaning t b a
same_back t a b h = record { fdes = λ fs. ((h.fdes fs).1, (h.fdes fs).0); rules = λ x row. ((h.rules x row).1, (h.rules x row).0) }

same_then : (t : Target) (a b c : List ℕ) → SameMeaning t a b → SameMeaning t b c → SameMeaning t a c
same_then t a b c h k = search rules

-- sections that say the same have the same members
same_members : (t : Target) (s u : List ℕ) (ms : List Member) → AreBytes s → AreBytes u → Accepted t s → Accepted t u → AreMembers t s ms → SameMeaning t s u → AreMembers t u ms
same_members t s u ms bs bu ok okay h same = search (rules, members_there t s u (map fde_of ms) ms (λ f i. i) (λ f changes i. meaning_changes t s u bs bu ok okay same (map fde_of ms) f changes h.fdes i) h.each)

pub same_normal_form : SameNormalForm
same_normal_form t s u n m bs bu h k small little = (
  λ e.
      let one = (meaning_is_kept t s n bs h small).2 in
      let two = (meaning_is_kept t u m bu k little).2 in
      same_then t s n u one (subst (λ (l : List ℕ). SameMeaning t l u) (sym e) (same_back t u m two)),
  λ same.
      let are = same_members t s u h.members bs bu h.accepted k.accepted h.are same in
      let there : IsNormalForm t u n = moved t s u n h k.accepted are in
      normal_form_is_one t u n m bu there k,
)

-- two sections say the same exactly where their members are the same
pub same_exactly : (t : Target) (s u : List ℕ) (ms ns : List Member) → AreBytes s → AreBytes u → Accepted t s → Accepted t u → AreMembers t s ms → AreMembers t u ns
    → length (canon t ms) ≤ 2147483647 → length (canon t ns) ≤ 2147483647 → (ms ≡ ns) ↔ SameMeaning t s u
same_exactly t s u ms ns bs bu ok okay h k small little = (
  λ e.
      let one : IsNormalForm t s (canon t ms) = is_normal t s ms bs ok h in
      let other : IsNormalForm t u (canon t ns) = is_normal t u ns bu okay k in
      (same_normal_form t s u (canon t ms) (canon t ns) bs bu one other small little).0 (ap (canon t) e),
  λ same. one_members t u bu okay ms ns (same_members t s u ms bs bu ok okay h same) k,
)

pub fewest_rows : FewestRows
fewest_rows t s f changes b ok some h = search (rules, least_starts)

-- ---- rows that a normal form starts

part_starts : List Part → List ℕ
part_starts [] = []
part_starts (p ∷ ps) = row_starts p.instrs ∷ part_starts ps

no_starts : (gs : List Group) (ws : List Written) → starts_of (map cie_of gs ++ ws) ≡ starts_of ws
no_starts [] ws = refl
no_starts (g ∷ gs) ws = no_starts gs ws

fde_starts : (t : Target) (gs : List Group) (ps : List Part) → starts_of (map (layout.fde_of t gs) ps) ≡ part_starts ps
unfolding part_starts
fde_starts t gs [] = refl
fde_starts t gs (p ∷ ps) = ap (λ (l : List ℕ). row_starts p.instrs ∷ l) (fde_starts t gs ps)

member_starts : (t : Target) (ms xs : List Member) → AllByRecursion (MemberFits t) ms → AllByRecursion (λ (m : Member). MemberStands t (initial_of ms m.register) m) xs
    → part_starts (map (part_of t ms) xs) ≡ map (λ (m : Member). length (changes_of m)) xs
unfolding part_starts
member_starts t ms [] all h = refl
member_starts t ms (m ∷ xs) all h = search (rules, member_program t (initial_of ms m.register) m (group_fits t ms m.register all) h.0, member_starts t ms xs all h.1)

laid_rows : (t : Target) (s : List ℕ) (b : AreBytes s) (ok : Accepted t s) (ms : List Member) (are : AreMembers t s ms) → length (section_bytes t (laid t (groups_of t ms) (parts_of t ms))) ≤ 2147483647
    → RowStarts t (section_bytes t (laid t (groups_of t ms) (parts_of t ms))) (total (map (λ (m : Member). length (changes_of m)) ms))
laid_rows t s b ok ms are small =
    let gs = groups_of t ms in
    let ps = parts_of t ms in
    let laid_is = rendered_laid t s gs ps b ok (renders t s b ok ms are) small in
    let starts : starts_of (laid t gs ps) ≡ map (λ (m : Member). length (changes_of m)) ms =
    no_starts gs (map (layout.fde_of t gs) ps) ∙ fde_starts t gs ps ∙ member_starts t ms ms (fits t s b ok ms are) (stand t s b ok ms are) in
    subst (λ (l : List ℕ). RowStarts t (section_bytes t (laid t gs ps)) (total l)) starts (written_starts t (laid t gs ps) (laid_section t gs ps laid_is))

pub normal_rows : NormalRows
normal_rows t s n b h small =
    let same = whole_is t s n b h ∙ laid_is t h.members in
    subst (λ (l : List ℕ). RowStarts t l (total (map (λ (m : Member). length (changes_of m)) h.members))) (sym same)
    (laid_rows t s b h.accepted h.members h.are (subst (λ (l : List ℕ). length l ≤ 2147483647) same small))

pub exact_rows : ExactRows
exact_rows t s n f changes b h small some c =
    let ok = h.accepted in
    let ms = h.members in
    let gs = groups_of t ms in
    let ps = parts_of t ms in
    let same = whole_is t s n b h ∙ laid_is t ms in
    let exact = all_exact t s ms ms (fits t s b ok ms h.are) (rendered.nonempty t s b ok ms h.are) h.are.each (stand t s b ok ms h.are) in
    let law : length (section_bytes t (laid t gs ps)) ≤ 2147483647 → (d : ChangesOf t (section_bytes t (laid t gs ps)) f changes) → row_starts d.instrs ≡ length changes =
    λ little d. laid_exact t s gs ps b ok (renders t s b ok ms h.are) little exact f changes some d in
    subst (λ (l : List ℕ). length l ≤ 2147483647 → (d : ChangesOf t l f changes) → row_starts d.instrs ≡ length changes) (sym same) law small c

pub none_fewer : NoneFewer
none_fewer t s n u f changes k l bs bu h small ok some same c says =
    let r = back t s n bs h small in
    let agree : Agree f.begin f.end c.initial c.instrs k l = λ a le lt.
    let row = row_exists t n r.bytes r.accepted f.begin f.end a c.initial c.instrs c.says le in
    let there = same a row.0 (le, lt) (programs_rules t n a row.0 f.begin f.end c.initial c.instrs c.says le lt row.1) in
    let mine = row_exists t u bu ok f.begin f.end a k l says le in
    let one = one_rules t u bu ok a mine.0 row.0 (programs_rules t u a mine.0 f.begin f.end k l says le lt mine.1) there in
    agree_row f.begin a c.initial c.instrs k l row.0 row.1 (subst (HoldsAt k l f.begin a) one mine.1) in
    let moved = changes_agree f.begin f.end c.initial c.instrs k l agree changes some c.change in
    let least = least_starts t u bu ok f.begin f.end k l changes some says moved in
    omega (arith, exact_rows t s n f changes bs h small some c, least)
