-- FDEs that begin with one row of a CIE begin with the same row, and each later row specifies what that does.
use Rattle.dw_section.proofs.Words.{◌≡◌, ℕ, ◌<◌, ◌≤◌, List, ◌∷◌, Option, sym, ◌∙◌, subst, arith, IsTrue, ℤ, AllByRecursion, Target, AreBytes, Instr, RegRule, cfa_with, initial_cfa, initial_rule, first_row, row_with, Rules, AreSpecified}
use Rattle.dw_section.proofs.Words.{is_specified, rule, counts_exists, same_rows, Fde, Accepted, AreChanges, HoldsAt, Head, ChangesOf, CieRow, OpensBehind, InitialInstrs, factors_of, ap, Ok, CieHead, HasBytes, IsAmong, cie, input_of}
use Rattle.dw_section.proofs.Words.{leaves_one, LeavesTo, OneCieRow}
use Rattle.dw_cfa.proofs.Lent.Openings.{AllSet, all_set, first_cfa, first_rule, stays_specified}
use Rattle.dw_section.proofs.{Lent.Heads.{all_in, cie_or, heads_bytes, heads_rise, one_among, one_begin}, Lent.HeaderLaws.one_headers, Lent.Sections.one_programs, Lent.Sounds.{Held, held_behind}, Stages.all_weaker}

-- the row that these instructions of a CIE leave, with this offset of the CFA where there is one
pub record IsLeft (initial : List Instr) (offset : Option ℤ) (row : Rules) : Type 0 where
  pub cfa : row.cfa ≡ cfa_with offset (initial_cfa initial)
  pub rules : (r : ℕ) → rule row r ≡ initial_rule initial r
  pub listed : AreSpecified 0 row.registers

-- a row specifies every register that another one does
abbrev pub Specifies : Rules → Rules → Type 0
Specifies row first = (r : ℕ) → IsTrue (is_specified (rule first r)) → IsTrue (is_specified (rule row r))

module _ (initial instrs : List Instr) (offset : Option ℤ) (begin : ℕ) where
  first_left : (row : Rules) → first_row instrs ≡ row_with offset → HoldsAt initial instrs begin begin row → IsLeft initial offset row
  first_left row first holds =
      let c = counts_exists begin instrs begin (omega arith) in
      let h = holds c.0 c.1 in
      record { cfa = h.cfa ∙ first_cfa (initial_cfa initial) begin offset instrs c.0 first c.1; rules = λ r. h.rules r ∙ first_rule (initial_rule initial r) begin offset instrs r c.0 first c.1; listed = h.listed }

  specifies : (first : Rules) → IsLeft initial offset first → AllSet instrs → (a : ℕ) (row : Rules) → begin ≤ a → HoldsAt initial instrs begin a row → Specifies row first
  specifies first left all a row le holds r some =
      let c = counts_exists begin instrs a le in
      let h = holds c.0 c.1 in
      let there : IsTrue (is_specified (initial_rule initial r)) = subst (λ (x : RegRule). IsTrue (is_specified x)) (left.rules r) some in
      subst (λ (x : RegRule). IsTrue (is_specified x)) (sym (h.rules r)) (stays_specified r (initial_rule initial r) there instrs c.0 all)

-- the row at the begin, and those behind it
pub record Opened (initial : List Instr) (offset : Option ℤ) (first : ℕ × Rules) (later : List (ℕ × Rules)) : Type 0 where
  pub left : IsLeft initial offset first.1
  pub specify : AllByRecursion (λ (change : ℕ × Rules). Specifies change.1 first.1) later

module _ (target : Target) (s : List ℕ) (b : AreBytes s) (ok : Accepted target s) where
  pub opened : (f : Fde) (row : CieRow) (first : ℕ × Rules) (later : List (ℕ × Rules)) (o : OpensBehind target s f row) → f.begin < f.end → ChangesOf target s f (first ∷ later) → Opened o.initial row.cfa_offset first later
  opened f row first later o some changes =
      let same = one_programs target s b ok f.begin f.begin f.end f.begin f.end changes.initial changes.instrs o.initial o.instrs (omega arith) some (omega arith) some changes.says o.says in
      let mine = subst (λ (j : List Instr). AreChanges o.initial j f.begin f.end (first ∷ later)) same.instrs (subst (λ (i : List Instr). AreChanges i changes.instrs f.begin f.end (first ∷ later)) same.initials changes.change) in
      let left = first_left o.initial o.instrs row.cfa_offset f.begin first.1 o.first mine.1 in
      let all = all_set target (factors_of o.says.spelled.head) o.instrs o.says.head.program.bytes o.says.spelled.spelled in
      let specify : (change : ℕ × Rules) → Held o.initial o.instrs f.begin f.end change → Specifies change.1 first.1 = λ change held. specifies o.initial o.instrs row.cfa_offset f.begin first.1 left all change.0 change.1 held.0 held.2 in
      let later_held = held_behind o.initial o.instrs f.begin f.end f.begin later (omega arith) mine.2 in
      record { left = left; specify = all_weaker (Held o.initial o.instrs f.begin f.end) (λ (change : ℕ × Rules). Specifies change.1 first.1) specify later later_held }

  -- two FDEs of one CIE, with one offset of the CFA
  pub one_initial : (f g : Fde) (row : CieRow) (o : OpensBehind target s f row) (p : OpensBehind target s g row) → o.initial ≡ p.initial
  one_initial f g row o p =
      let hs = o.says.headers in
      let same : p.says.headers ≡ hs = one_headers target s p.says.headers hs p.says.are o.says.are in
      let other = subst (λ (l : List Head). InitialInstrs target l row.cie_at p.head p.initial) same p.begins in
      (one_begin target hs row.cie_at o.head p.head o.initial p.initial (heads_rise target s hs o.says.are) (heads_bytes target s hs b o.says.are) o.begins other).instrs

  pub one_first : (f g : Fde) (row : CieRow) (first other : ℕ × Rules) (later more : List (ℕ × Rules)) (o : OpensBehind target s f row) (p : OpensBehind target s g row) → Opened o.initial row.cfa_offset first later → Opened p.initial row.cfa_offset other more → first.1 ≡ other.1
  one_first f g row first other later more o p h k =
      let left = subst (λ (l : List Instr). IsLeft l row.cfa_offset first.1) (one_initial f g row o p) h.left in
      same_rows first.1 other.1 left.listed k.left.listed (left.cfa ∙ sym k.left.cfa) (λ r. left.rules r ∙ sym (k.left.rules r))

-- a CIE leaves one row
pub one_cie_row : OneCieRow
one_cie_row target s at x y b p q =
    let hs = p.headers in
    let same : q.headers ≡ hs = one_headers target s q.headers hs q.are p.are in
    let among : IsAmong (cie q.head) hs = subst (λ (l : List Head). IsAmong (cie q.head) l) same q.among in
    let one : cie p.head ≡ cie q.head = one_among 0 hs (cie p.head) (cie q.head) (heads_rise target s hs p.are) p.among among (p.stands ∙ sym q.stands) in
    let head : p.head ≡ q.head = ap (cie_or p.head) one in
    let bytes = all_in HasBytes hs (cie q.head) (heads_bytes target s hs b p.are) among in
    let left = subst (λ (h : CieHead). LeavesTo (factors_of h) (input_of target h.program) (Ok x)) head p.leaves in
    leaves_one (factors_of q.head) (input_of target q.head.program) left.0 q.leaves.0 x y bytes left.1 q.leaves.1
