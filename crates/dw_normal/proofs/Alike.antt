-- Two tables whose normal forms are compared, entry by entry.
use Rattle.dw_normal.proofs.Words.{◌≡◌, ◌⊎◌, ℕ, ◌+◌, ◌<◌, ◌++◌, Bool, true, false, not, inl, inr, refl, subst, arith, Decides, IfOk, IfErr, IsErrAnd, List, length, length-append, take, drop, get_or, Result, Ok, Err, sym, ap, ◌∙◌, fixed_bytes, length-fixed, Target, Rules, Member, contents, entry_bytes}
use Rattle.dw_normal.proofs.{Words.{canon, initial_rows, cies_bytes, fdes_bytes, fde_with, unsized, AreMembers, Likens, Output, Section, Stop, Full, Place, Puts}, Entries.{canon_both, fdes_at, fdes_then}, Grouped.no_member, Joined.sized_long}
use Rattle.std.proofs.{Math.Dec.eqb, lemmas.List.drop_at, lemmas.Bool.{eq-eqb, eqb-true}, lemmas.Slice.Eq.slice_eq-Decides}
use Rattle.std.specs.Cmp.Lexicographic.{pointwise}
use Rattle.dw_normal.specs.Inner.Writing.{FillsListed}
use Rattle.dw_num.specs.declared.target.Form.TheVariants.{Dwarf32}
use Rattle.dw_section.specs.Cut.{entry, item_bytes}

module _ {t u : Target} (same : t ≡ u) (ms ns : List Member) (k : ℕ) (d : Member) where
  -- an FDE of one table, and that of another at its place
  abbrev held : Target → List Member → List ℕ
  held v xs = fixed_bytes v.order 4 0 ++ contents v (fde_with v xs (get_or xs k d))

  abbrev entry_at : Target → List Member → List ℕ
  entry_at v xs = entry_bytes v (fde_with v xs (get_or xs k d))

  held_entry : (xs : List Member) → held t ms ≡ held t xs → entry_at t ms ≡ entry_at t xs
  held_entry xs e =
      let own = drop_at (fixed_bytes t.order 4 0) (contents t (fde_with t ms (get_or ms k d))) 4 (length-fixed t.order 4 0) in
      let other = drop_at (fixed_bytes t.order 4 0) (contents t (fde_with t xs (get_or xs k d))) 4 (length-fixed t.order 4 0) in
      let inner : contents t (fde_with t ms (get_or ms k d)) ≡ contents t (fde_with t xs (get_or xs k d)) = sym own ∙ ap (drop 4) e ∙ other in
      ap (λ (l : List ℕ). item_bytes t.order (entry Dwarf32 l)) inner

  pub fdes_same : (x y : List ℕ) → x ≡ held t ms → y ≡ held u ns → ms ≡ ns → x ≡ y
  fdes_same x y mine other e = mine ∙ ap (held t) e ∙ ap (λ (v : Target). held v ns) same ∙ sym other

  fdes_alike : (x y : List ℕ) → x ≡ held t ms → y ≡ held u ns → x ≡ y → entry_at t ms ≡ entry_at u ns
  fdes_alike x y mine other is = held_entry ns (sym mine ∙ is ∙ other ∙ ap (λ (v : Target). held v ns) (sym same)) ∙ ap (λ (v : Target). entry_at v ns) same

  -- one FDE more
  pub fdes_more_like : k < length ms → k < length ns → fdes_bytes t ms (take k ms) ≡ fdes_bytes u ns (take k ns) → (x y : List ℕ) → x ≡ held t ms → y ≡ held u ns → x ≡ y → fdes_bytes t ms (take (k + 1) ms) ≡ fdes_bytes u ns (take (k + 1) ns)
  fdes_more_like lt lt' before x y mine other is =
      let own = fdes_alike x y mine other is in
      fdes_then t ms k d lt ∙ ap (λ (l : List ℕ). l ++ entry_at t ms) before ∙ ap (λ (l : List ℕ). fdes_bytes u ns (take k ns) ++ l) own ∙ sym (fdes_then u ns k d lt')

-- ---- the whole

-- the CIEs are those of the members
pub cies_unlike : {t u : Target} → t ≡ u → (ms ns : List Member) (rows others : List (ℕ × Rules)) → rows ≡ initial_rows ms → others ≡ initial_rows ns → (cies_bytes t rows ≡ cies_bytes u others → ⊥) → ms ≡ ns → ⊥
cies_unlike {t = t} same ms ns rows others is is' not e = not (ap (cies_bytes t) (is ∙ ap initial_rows e ∙ sym is') ∙ ap (λ (v : Target). cies_bytes v others) same)

pub canon_like : (t u : Target) (ms ns : List Member) (rows others : List (ℕ × Rules)) → rows ≡ initial_rows ms → others ≡ initial_rows ns → cies_bytes t rows ≡ cies_bytes u others
    → fdes_bytes t ms ms ≡ fdes_bytes u ns ns → canon t ms ≡ canon u ns
canon_like t u ms ns rows others is is' cies fdes =
    sym (canon_both t ms rows is) ∙ ap (λ (l : List ℕ). l ++ fdes_bytes t ms ms) cies ∙ ap (λ (l : List ℕ). cies_bytes u others ++ l) fdes ∙ canon_both u ns others is'

pub if_likens : {E : Type 0} (A B C : Type 0) (r : Result Bool E) → (B → C) → IfOk r (Likens A B) → IfOk r (Likens A C)
if_likens A B C (Ok b) f h = (h.0, λ yes. f (h.1 yes))
if_likens A B C (Err e) f h = tt

-- ---- where there is no room

-- an error that `?` hands on
pub lacks_on : {A : Type 0} (r : Result A Stop) (e : Stop) (P : Type 0) → IsErrAnd r (λ (x : Stop). x ≡ e) → (e ≡ Full → P) → IfErr r (λ stop. stop ≡ Full → P)
lacks_on (Ok x) e P is h = tt
lacks_on (Err x) e P is h = λ full. h (sym is ∙ full)

-- that there is no room has another reason too
pub if_lacks : {A B C D : Type 0} {T : Type 0} (r : Result T Stop) → (A → C) → (B → D) → IfErr r (λ stop. stop ≡ Full → A ⊎ B) → IfErr r (λ stop. stop ≡ Full → C ⊎ D)
if_lacks (Ok x) f g h = tt
if_lacks (Err x) f g h = λ full. elim (h full) [ inl a ↦ inl (f a) | inr b ↦ inr (g b) ]

-- for an FDE of a table, and so for all of them
fde_lacks : (t : Target) (ms : List Member) (k : ℕ) (d : Member) (room : ℕ) → k < length ms → room < length (unsized t (fde_with t ms (get_or ms k d))) → room < length (fdes_bytes t ms ms)
fde_lacks t ms k d room lt over =
    let own = fde_with t ms (get_or ms k d) in
    let behind = fdes_bytes t ms (drop (k + 1) ms) in
    omega (arith, over, sized_long t.order (length (contents t own)) (contents t own), ap length (fdes_at t ms k d lt), length-append (fdes_bytes t ms (take k ms)) (entry_bytes t own ++ behind), length-append (entry_bytes t own) behind)

pub fdes_over : (now table : Section) (k room : ℕ) (e : Stop) (old new : Output) → now ≡ table → old.room ≡ room → FillsListed now k (Err e) old new → e ≡ Full
    → (ms : List Member) → AreMembers table.target table.bytes ms → k < length ms → room < length (fdes_bytes table.target ms ms)
fdes_over now table k room e old new same left fills full ms are lt =
    let here : FillsListed table k (Err Full) old new =
    subst (λ (x : Stop). FillsListed table k (Err x) old new) full (subst (λ (s : Section). FillsListed s k (Err e) old new) same fills) in
    fde_lacks table.target ms k no_member room lt (subst (λ (n : ℕ). n < length (unsized table.target (fde_with table.target ms (get_or ms k no_member)))) left (here ms are no_member))

-- for the CIEs, or for the FDEs behind them, and so for the normal form
module _ (t : Target) (ms : List Member) (rows : List (ℕ × Rules)) (is : rows ≡ initial_rows ms) where
  whole_long : length (cies_bytes t rows) + length (fdes_bytes t ms ms) ≡ length (canon t ms)
  whole_long = sym (length-append (cies_bytes t rows) (fdes_bytes t ms ms)) ∙ ap length (canon_both t ms rows is)

  pub cies_lack : (counts : Bool) (e : Stop) (old new : Place) (room : ℕ) → old.room ≡ room → Puts counts (cies_bytes t rows) (Err e) old new → e ≡ Full → room < length (canon t ms)
  cies_lack counts e old new room left puts full =
      let over : old.room < length (cies_bytes t rows) = subst (λ (x : Stop). Puts counts (cies_bytes t rows) (Err x) old new) full puts in
      omega (arith, over, left, whole_long)

  pub fdes_lack : (all room : ℕ) → room + length (cies_bytes t rows) ≡ all → room < length (fdes_bytes t ms ms) → all < length (canon t ms)
  fdes_lack all room left over = omega (arith, over, left, whole_long)

-- ---- bytes that are compared

told : (xs ys : List ℕ) → Decides (pointwise eqb xs ys) (xs ≡ ys)
told xs ys = slice_eq-Decides (λ a b. (eqb-true a b, eq-eqb a b)) xs ys _ refl

ne_tells : (p r : Bool) → r ≡ not p → (r ≡ true → p ≡ false) × (r ≡ false → p ≡ true)
ne_tells true r e = (λ f. absurd cc, λ f. refl)
ne_tells false r e = (λ f. refl, λ f. absurd cc)

module _ (xs ys : List ℕ) (r : Bool) (is : r ≡ not (pointwise eqb xs ys)) where
  pub unlike : r ≡ true → xs ≡ ys → ⊥
  unlike e same = let no = (ne_tells (pointwise eqb xs ys) r is).0 e in let yes' = (told xs ys).1 same in absurd cc

  pub alike : r ≡ false → xs ≡ ys
  alike e = (told xs ys).0 ((ne_tells (pointwise eqb xs ys) r is).1 e)
