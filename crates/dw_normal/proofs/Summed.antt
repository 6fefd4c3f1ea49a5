-- The normal form is the CIEs with the initial rows, and then the FDEs.
use Rattle.dw_normal.proofs.Words.{◌≡◌, ℕ, List, [], ◌∷◌, ◌++◌, length, map, refl, sym, ap, ◌∙◌, append_assoc, nil_from_length, Target, Rules, group_of, groups_of, part_of, parts_of, canon, initial_of, return_registers, cie_of, Member}
use Rattle.dw_normal.proofs.Words.{Written, entry_bytes, section_bytes, section_append, laid_is, initial_rows, rules, OnOk, Result, Ok, Err, cie_with, cies_bytes, fdes_bytes, Begun, Walks}
use Rattle.dw_normal.specs.Inner.Begun.{KeepsFde}
use Rattle.dw_canon.specs.Inner.Laid.{fde_of}

cies_same : (t : Target) (ms : List Member) (rs : List ℕ) → map cie_of (map (group_of t ms) rs) ≡ map (cie_with t) (map {B = ℕ × Rules} (λ (r : ℕ). (r, initial_of ms r)) rs)
cies_same t ms [] = refl
cies_same t ms (r ∷ rs) = ap (λ (l : List Written). cie_with t (r, initial_of ms r) ∷ l) (cies_same t ms rs)

pub canon_is : (t : Target) (ms : List Member) → canon t ms ≡ cies_bytes t (initial_rows ms) ++ fdes_bytes t ms ms
canon_is t ms =
    let fdes = map (fde_of t (groups_of t ms)) (parts_of t ms) in
    laid_is t ms ∙ section_append t (map cie_of (groups_of t ms)) fdes ∙ ap (λ (l : List Written). section_bytes t l ++ section_bytes t fdes) (cies_same t ms (return_registers ms))

-- ---- the FDEs, one after another

module _ (t : Target) (all : List Member) where
  abbrev bytes_of : Member → List ℕ
  bytes_of m = entry_bytes t (fde_of t (groups_of t all) (part_of t all m))

  pub fdes_append : (xs ys : List Member) → fdes_bytes t all (xs ++ ys) ≡ fdes_bytes t all xs ++ fdes_bytes t all ys
  fdes_append [] ys = refl
  fdes_append (x ∷ xs) ys = ap (λ (l : List ℕ). bytes_of x ++ l) (fdes_append xs ys) ∙ sym (append_assoc (bytes_of x) (fdes_bytes t all xs) (fdes_bytes t all ys))

  -- without an FDE
  pub none_bytes : (ms : List Member) → length ms ≡ 0 → fdes_bytes t all ms ≡ []
  none_bytes ms e = ap (fdes_bytes t all) (nil_from_length ms e)

-- ---- an FDE that was begun

still_walks : (b c : Begun) → Walks b → c.changes.section ≡ b.changes.section → KeepsFde b c → Walks c
still_walks b c h section kept = search rules

pub walks_on : {A E : Type 0} (r : Result A E) (b c : Begun) → Walks b → c.changes.section ≡ b.changes.section → KeepsFde b c → OnOk r (Walks c)
walks_on (Ok x) b c h section kept = still_walks b c h section kept
walks_on (Err e) b c h section kept = tt
