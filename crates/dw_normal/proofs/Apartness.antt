-- Sets of registers outside which two rows are the same: as they are listed, and as one is known by another.
use Rattle.dw_normal.proofs.Words.{◌≡◌, ℕ, ◌<◌, false, List, Option, Some, None, sym, subst, inl, inr, IfSome, BTreeMap, Rules, rule, Changing, row_of, shown_row, ◌||◌, Registers, SameBeside, has, CieLeaves, Section}
use Rattle.dw_normal.proofs.Words.{rules, Behind, NotesSame, ShownBehind, AreSame, HoldsAt, CieSet, Known}

-- ---- registers that are listed

-- registers below a place that are not listed have the same rules
abbrev pub SameBelow : ℕ → Registers → Rules → Rules → Type 0
SameBelow place set row other = (r : ℕ) → r < place → has set r ≡ false → rule row r ≡ rule other r

-- a set with all registers of two others, outside one of which two rows are the same, and outside the other one of them and a third
pub beside_both : (changed apart set : Registers) (shared row first : Rules) → ((r : ℕ) → has set r ≡ (has apart r || has changed r)) → SameBeside changed row first → SameBeside apart shared first → SameBeside set shared row
beside_both changed apart set shared row first both own other r none = search rules

-- ---- what is known of CIEs, where these are the rows of the groups

module _ (s : Section) (rows : List (ℕ × Rules)) where
  -- a CIE leaves one row
  abbrev OneRow : Type 0
  OneRow = (place : ℕ) (x y : Rules) → CieLeaves s.target s.bytes place x → CieLeaves s.target s.bytes place y → x ≡ y

  abbrev SameAt : ℕ → CieSet → Type 0
  SameAt place cie = (row : Rules) → CieLeaves s.target s.bytes place row → IfSome (row_of rows cie.register) (λ shared. SameBeside cie.set shared row)

  module _ (register : ℕ) (shared : Rules) (look : row_of rows register ≡ Some shared) where
    known_same : (cies : BTreeMap ℕ CieSet) → AreSame s rows cies → (place : ℕ) (row : Rules) → CieLeaves s.target s.bytes place row → HoldsAt (λ set. SameBeside set shared row) place register cies
    known_same cies known place row leaves set is =
        let here = subst (λ (o : Option CieSet). IfSome o (SameAt place)) is (known place) in
        subst (λ (o : Option Rules). IfSome o (λ shared. SameBeside set shared row)) look (here row leaves)

    -- of the CIE of an FDE, whose first row is shown
    pub known_first : (changes : Changing) (behind : Option Behind) (changed : Registers) (cies : BTreeMap ℕ CieSet) → changes.section ≡ s → IfSome behind (ShownBehind changes changed)
        → AreSame s rows cies → IfSome behind (λ b. (row : Rules) × HoldsAt (λ set. SameBeside set shared row) b.cie_at register cies × SameBeside changed row (shown_row changes))
    known_first changes None changed cies section stands known = tt
    known_first changes (Some b) changed cies section stands known = (
      stands.row,
      known_same cies known b.cie_at stands.row (subst (λ (t : Section). CieLeaves t.target t.bytes b.cie_at stands.row) section stands.leaves),
      stands.beside,
    )

    -- a set that is noted of the CIE of an FDE
    noted_same : (changes : Changing) (b : Behind) (changed set : Registers) → OneRow → changes.section ≡ s → ShownBehind changes changed b → ((row : Rules) → SameBeside changed row (shown_row changes) → SameBeside set shared row)
        → (place : ℕ) → place ≡ b.cie_at → SameAt place (record { register = register; set = set })
    noted_same changes b changed set one section stands own place at row left =
        let leaves = subst (λ (t : Section). CieLeaves t.target t.bytes b.cie_at stands.row) section stands.leaves in
        let is = one b.cie_at stands.row row leaves (subst (λ (n : ℕ). CieLeaves s.target s.bytes n row) at left) in
        let beside = own row (subst (λ (r : Rules). SameBeside changed r (shown_row changes)) is stands.beside) in
        subst (λ (o : Option Rules). IfSome o (λ shared. SameBeside set shared row)) (sym look) beside

    pub still_same : (changes : Changing) (behind : Option Behind) (old : Known) (new : BTreeMap ℕ CieSet) → OneRow → changes.section ≡ s → IfSome behind (ShownBehind changes old.changed) → AreSame s rows old.cies
        → NotesSame behind register old shared (shown_row changes) new → AreSame s rows new
    still_same changes None old new one section stands known same = subst (AreSame s rows) (sym same) known
    still_same changes (Some b) old new one section stands known notes = λ place. elim (notes place) [
      | inl none ↦ subst (λ (o : Option CieSet). IfSome o (SameAt place)) (sym none) tt
      | inr (inl same) ↦ subst (λ (o : Option CieSet). IfSome o (SameAt place)) (sym same) (known place)
      | inr (inr own) ↦ subst (λ (o : Option CieSet). IfSome o (SameAt place)) (sym own.1.1) (noted_same changes b old.changed own.1.0 one section stands own.1.2 place own.0)
    ]
