-- Each FDE of an accepted section has changes.
use Rattle.dw_section.proofs.Words.{ℕ, ◌<◌, List, None, sym, subst, arith, ◌≤◌, [], ◌∷◌, length, Option, Some, inl, inr, Target, AreBytes, Instr, LocatedRow, Rules, Accepted, HoldsAt, AreChanges, changes_among, Among, FdeSays, AreFdes}
use Rattle.dw_section.proofs.Words.{ChangesOf, SameMeaning, IsAmong, row_starts, Fde}
use Rattle.dw_section.proofs.Lent.{ChangeLaws.changes_found, Rowed.agree_row, Sames.{AllAgree, changes_there}, Sections.{here, row_exists, one_rules, programs_rules, listed_programs, given_by}}
pub use Rattle.dw_section.proofs.ChangesAmong.{are_among}

among_few : (end : ℕ) (shown : Option Rules) (rows : List LocatedRow) (changes : List (ℕ × Rules)) → Among end shown rows changes → length changes ≤ length rows
among_few end shown [] changes h = rw h (omega arith)
among_few end shown (row ∷ rows) changes (inl h) = let rest = among_few end shown rows changes h.1 in omega arith
among_few end shown (row ∷ rows) changes (inr h) = let rest = among_few end (Some row.row) rows h.1.0 h.1.2 in rw (h.1.1) (omega arith)

module _ (target : Target) (s : List ℕ) (b : AreBytes s) (ok : Accepted target s) where
  -- an FDE that is not empty has changes
  pub changes_exist : (begin end : ℕ) (i j : List Instr) → begin < end → FdeSays target s begin end i j → (changes : List (ℕ × Rules)) × AreChanges i j begin end changes × (length changes ≤ row_starts j)
  changes_exist begin end i j lt h =
      let x = here target s b ok begin end i j h in
      let g = given_by target s b ok begin end i j h in
      let changes = changes_among end None g.rows in
      let are = are_among end None g.rows in
      let found = changes_found target x.spelled.head x.head i j end g changes (omega (arith, lt, x.begin_is)) are in
      (changes, subst (λ (n : ℕ). AreChanges i j n end changes) (sym x.begin_is) found, omega (arith, among_few end None g.rows changes are, g.gives.starts))

  -- so each FDE that is listed has
  pub listed_change : (fs : List Fde) (f : Fde) → AreFdes target s fs → IsAmong f fs → (changes : List (ℕ × Rules)) × ChangesOf target s f changes
  listed_change fs f are listed =
      let (some, (i, j, says)) = listed_programs target s b ok fs f are listed in
      let c = changes_exist f.begin f.end i j some says in
      (c.0, record { initial = i; instrs = j; says = says; change = c.1 })

-- ---- sections of one meaning

module _ (target : Target) (s t : List ℕ) (bs : AreBytes s) (bt : AreBytes t) (oks : Accepted target s) (okt : Accepted target t) (same : SameMeaning target s t) where
  -- their programs agree
  pub meaning_agree : (fs : List Fde) → AllAgree target s t fs
  meaning_agree fs f listed i j k l v w a le lt =
      let row = row_exists target s bs oks f.begin f.end a i j v le in
      let there = (same.rules a row.0).0 (programs_rules target s a row.0 f.begin f.end i j v le lt row.1) in
      let mine = row_exists target t bt okt f.begin f.end a k l w le in
      let one = one_rules target t bt okt a mine.0 row.0 (programs_rules target t a mine.0 f.begin f.end k l w le lt mine.1) there in
      agree_row f.begin a i j k l row.0 row.1 (subst (HoldsAt k l f.begin a) one mine.1)

  -- so they have the same changes
  pub meaning_changes : (fs : List Fde) (f : Fde) (changes : List (ℕ × Rules)) → AreFdes target s fs → IsAmong f fs → ChangesOf target s f changes → ChangesOf target t f changes
  meaning_changes fs f changes are listed = changes_there target s t bs bt oks okt fs are ((same.fdes fs).0 are) (meaning_agree fs) f changes listed
