-- Two accepted sections with the same FDEs, whose programs agree, say the same.
use Rattle.dw_section.proofs.Words.{◌≡◌, ℕ, ◌<◌, List, subst, arith, Target, AreBytes, Instr, Rules, Accepted, FdeSays, AreFdes, RulesAt, ChangesOf, Agree, SameMeaning, IsAmong, Fde}
use Rattle.dw_section.proofs.Lent.{FdeLookup.one_fdes, Agrees.{agree_sym, holds_agree, changes_agree}, Rowed.one_changes, Sections.{one_programs, programs_rules, listed_programs, rules_covered, row_exists, one_rules}}

-- the changes of an FDE that is not empty are one
pub one_change_list : (target : Target) (s : List ℕ) (b : AreBytes s) (ok : Accepted target s) (f : Fde) (xs ys : List (ℕ × Rules)) → f.begin < f.end → ChangesOf target s f xs → ChangesOf target s f ys → xs ≡ ys
one_change_list target s b ok f xs ys some v w =
    let same = one_programs target s b ok f.begin f.begin f.end f.begin f.end v.initial v.instrs w.initial w.instrs (omega arith) some (omega arith) some v.says w.says in
    one_changes w.initial w.instrs f.begin f.end xs ys (rw (same.initials, same.instrs) at v.change) w.change

-- programs of the same FDEs agree
abbrev pub AllAgree : Target → List ℕ → List ℕ → List Fde → Type 0
AllAgree target s t fs = (f : Fde) → IsAmong f fs → (i j k l : List Instr) → FdeSays target s f.begin f.end i j → FdeSays target t f.begin f.end k l → Agree f.begin f.end i j k l

pub all_agree_sym : (target : Target) (s t : List ℕ) (fs : List Fde) → AllAgree target s t fs → AllAgree target t s fs
all_agree_sym target s t fs h f listed i j k l p q a le lt = agree_sym f.begin a k l i j (h f listed k l i j q p a le lt)

module _ (target : Target) (s t : List ℕ) (bs : AreBytes s) (bt : AreBytes t) (oks : Accepted target s) (okt : Accepted target t) (fs : List Fde)
    (in_s : AreFdes target s fs) (in_t : AreFdes target t fs) (agree : AllAgree target s t fs) where
  pub rules_there : (a : ℕ) (row : Rules) → RulesAt target s a row → RulesAt target t a row
  rules_there a row h =
      let c = rules_covered target s bs oks fs a row in_s h in
      let f = c.0 in
      let le = c.2.0 in
      let lt = c.2.1 in
      let p = (listed_programs target s bs oks fs f in_s c.1).1 in
      let q = (listed_programs target t bt okt fs f in_t c.1).1 in
      let here = row_exists target s bs oks f.begin f.end a p.0 p.1 p.2 le in
      let one = one_rules target s bs oks a here.0 row (programs_rules target s a here.0 f.begin f.end p.0 p.1 p.2 le lt here.1) h in
      let holds = holds_agree f.begin a p.0 p.1 q.0 q.1 here.0 le (agree f c.1 p.0 p.1 q.0 q.1 p.2 q.2 a le lt) here.1 in
      subst (RulesAt target t a) one (programs_rules target t a here.0 f.begin f.end q.0 q.1 q.2 le lt holds)

  pub changes_there : (f : Fde) (changes : List (ℕ × Rules)) → IsAmong f fs → ChangesOf target s f changes → ChangesOf target t f changes
  changes_there f changes listed h =
      let all = listed_programs target t bt okt fs f in_t listed in
      let there = all.1 in
      let agrees = agree f listed h.initial h.instrs there.0 there.1 h.says there.2 in
      record { initial = there.0; instrs = there.1; says = there.2; change = changes_agree f.begin f.end h.initial h.instrs there.0 there.1 agrees changes all.0 h.change }

module _ (target : Target) (s t : List ℕ) (bs : AreBytes s) (bt : AreBytes t) (oks : Accepted target s) (okt : Accepted target t) (fs : List Fde)
    (in_s : AreFdes target s fs) (in_t : AreFdes target t fs) (agree : AllAgree target s t fs) where
  pub same_meaning : SameMeaning target s t
  same_meaning = record {
    fdes = λ gs. (λ h. subst (AreFdes target t) (one_fdes target s fs gs in_s h) in_t, λ h. subst (AreFdes target s) (one_fdes target t fs gs in_t h) in_s);
    rules = λ a row. (rules_there target s t bs bt oks okt fs in_s in_t agree a row, rules_there target t s bt bs okt oks fs in_t in_s (all_agree_sym target s t fs agree) a row);
  }
