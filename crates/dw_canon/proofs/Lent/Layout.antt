-- The normal form is its CIEs and FDEs, laid out with their instructions.
use Rattle.dw_canon.specs.Canon.{canon as canon_with}
use Rattle.dw_canon.specs.Inner.Laid as layout
use Rattle.dw_canon.proofs.Words.{rules, ◌≡◌, ℕ, ◌+◌, List, [], ◌∷◌, ◌++◌, length, map, refl, ap, ◌==◌, if◌then◌else◌, flat_map, Target, cie_bytes, cie_at, fde_bytes}
use Rattle.dw_canon.proofs.{Words.{canon, Member, cie_of, place_of, laid, group_of, groups_of, part_of, parts_of, entry_bytes, section_bytes}, Lent.Extra.section_append}

module _ (t : Target) (ms : List Member) where
  at_place : (at : ℕ) (rs : List ℕ) (register : ℕ) → cie_at t ms at rs register ≡ place_of t at (map (group_of t ms) rs) register
  at_place at [] register = refl
  at_place at (r ∷ rs) register = ap (λ (n : ℕ). if r == register then at else n) (at_place (at + length (cie_bytes t ms r)) rs register)

  cies_laid : (rs : List ℕ) → flat_map (cie_bytes t ms) rs ≡ section_bytes t (map cie_of (map (group_of t ms) rs))
  cies_laid [] = refl
  cies_laid (r ∷ rs) = ap (λ (l : List ℕ). cie_bytes t ms r ++ l) (cies_laid rs)

  fde_laid : (m : Member) → fde_bytes t ms m ≡ entry_bytes t (layout.fde_of t (groups_of t ms) (part_of t ms m))
  fde_laid m = search (rules, at_place)

  fdes_laid : (xs : List Member) → flat_map (fde_bytes t ms) xs ≡ section_bytes t (map (layout.fde_of t (groups_of t ms)) (map (part_of t ms) xs))
  fdes_laid [] = refl
  fdes_laid (m ∷ xs) = search (rules, fde_laid m, fdes_laid xs)

  pub laid_is : canon t ms ≡ section_bytes t (laid t (groups_of t ms) (parts_of t ms))
  unfolding canon_with
  laid_is = search (rules, cies_laid, fdes_laid, section_append)
