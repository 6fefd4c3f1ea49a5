-- The rows that a section starts are no fewer than its changes.
use Rattle.dw_section.proofs.Words.{◌≡◌, ℕ, ◌<◌, ◌≤◌, List, [], ◌∷◌, length, map, ap, refl, arith, AllByRecursion, AllZip, Target, AreBytes, Instr, row_starts, Rules, Accepted, AreChanges, FdeSays, Lists, AreFdes, ChangesOf, Starts, total}
use Rattle.dw_section.proofs.{Words.{Range, end_of, Fde, RowStarts}, Lent.{FdeLookup.along, Index.all_from, Exists.changes_exist, Rowed.one_changes, Sections.{hs, headers_of, index, fdes_exist, fdes_zip, one_programs, listed_programs}}}

-- an FDE of an accepted section starts at least as many rows as it has changes
pub least_starts : (target : Target) (s : List ℕ) (b : AreBytes s) (ok : Accepted target s) (begin end : ℕ) (i j : List Instr) (changes : List (ℕ × Rules)) → begin < end
    → FdeSays target s begin end i j → AreChanges i j begin end changes → length changes ≤ row_starts j
least_starts target s b ok begin end i j changes lt h c =
    let e = changes_exist target s b ok begin end i j lt h in
    omega (arith, e.2, ap length (one_changes i j begin end e.0 changes e.1 c))

module _ (target : Target) (s : List ℕ) (b : AreBytes s) (ok : Accepted target s) where
  starts_one : (a : Range) (f : Fde) (n : ℕ) (changes : List (ℕ × Rules)) → f.begin < f.end → Lists (hs target s b ok) a f → Starts target s a n → ChangesOf target s f changes → length changes ≤ n
  starts_one a f n changes some lists starts h =
      let same = one_programs target s b ok f.begin f.begin f.end a.begin (end_of a) h.initial h.instrs starts.0 starts.1 (omega arith) some (omega (arith, lists.begin)) (omega (arith, lists.begin, lists.end)) h.says starts.2 in
      omega (arith, least_starts target s b ok f.begin f.end h.initial h.instrs changes some h.says h.change, ap row_starts same.instrs, starts.4)

  starts_all : (rs : List Range) (fs : List Fde) (ns : List ℕ) (lists : List (List (ℕ × Rules))) → AllByRecursion (λ (f : Fde). f.begin < f.end) fs → AllZip (Lists (hs target s b ok)) rs fs → AllZip (Starts target s) rs ns → AllZip (ChangesOf target s) fs lists
      → total (map length lists) ≤ total ns
  starts_all [] [] [] [] some z w c = omega arith
  starts_all (r ∷ rs) (f ∷ fs) (n ∷ ns) (l ∷ lists) some z w c = let rest = starts_all rs fs ns lists some.1 z.1 w.1 c.1 in let here = starts_one r f n l some.0 z.0 w.0 c.0 in omega arith
  starts_all rs fs ns lists some z w c = absurd assumption

  -- all FDEs together start no fewer rows than they have changes
  pub least_total : (fs : List Fde) (lists : List (List (ℕ × Rules))) (n : ℕ) → AreFdes target s fs → AllZip (λ f changes. ChangesOf target s f changes) fs lists → RowStarts target s n → total (map length lists) ≤ n
  least_total fs lists n are each starts =
      let zip = along (λ h. Starts target s) target s (hs target s b ok) starts.headers (index target s b ok) starts.index starts.counts (headers_of target s b ok) ok.1.2 starts.are starts.is_index starts.each in
      let all = starts_all (index target s b ok) fs starts.counts lists (all_from (λ (f : Fde). f.begin < f.end) fs (λ f i. (listed_programs target s b ok fs f are i).0)) (fdes_zip target s b ok fs are) zip each in
      omega (arith, starts.sum)

  -- an FDE starts one number of rows
  starts_alike : (a : Range) (f : Fde) (n m : ℕ) → f.begin < f.end → Lists (hs target s b ok) a f → Starts target s a n → Starts target s a m → n ≡ m
  starts_alike a f n m some lists v w =
      let same = one_programs target s b ok f.begin a.begin (end_of a) a.begin (end_of a) v.0 v.1 w.0 w.1 (omega (arith, lists.begin)) (omega (arith, lists.end)) (omega (arith, lists.begin)) (omega (arith, lists.end)) v.2 w.2 in
      omega (arith, v.4, w.4, ap row_starts same.instrs)

  all_alike : (rs : List Range) (fs : List Fde) (ns ms : List ℕ) → AllByRecursion (λ (f : Fde). f.begin < f.end) fs → AllZip (Lists (hs target s b ok)) rs fs → AllZip (Starts target s) rs ns → AllZip (Starts target s) rs ms → total ns ≡ total ms
  all_alike [] [] [] [] some z v w = refl
  all_alike (r ∷ rs) (f ∷ fs) (n ∷ ns) (m ∷ ms) some z v w = let rest = all_alike rs fs ns ms some.1 z.1 v.1 w.1 in let here = starts_alike r f n m some.0 z.0 v.0 w.0 in omega arith
  all_alike rs fs ns ms some z v w = absurd assumption

  -- and so do all
  pub one_row_starts : (n m : ℕ) → RowStarts target s n → RowStarts target s m → n ≡ m
  one_row_starts n m v w =
      let fs = fdes_exist target s b ok in
      let some = all_from (λ (f : Fde). f.begin < f.end) fs.0 (λ f i. (listed_programs target s b ok fs.0 f fs.1 i).0) in
      let one = along (λ h. Starts target s) target s (hs target s b ok) v.headers (index target s b ok) v.index v.counts (headers_of target s b ok) ok.1.2 v.are v.is_index v.each in
      let other = along (λ h. Starts target s) target s (hs target s b ok) w.headers (index target s b ok) w.index w.counts (headers_of target s b ok) ok.1.2 w.are w.is_index w.each in
      omega (arith, v.sum, w.sum, all_alike (index target s b ok) fs.0 v.counts w.counts some (fdes_zip target s b ok fs.0 fs.1) one other)
