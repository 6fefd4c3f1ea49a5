-- At most how many bytes the normal form of a section has, by the lengths of the section's programs: a product of what a change
-- may take and of how many changes there may be, each at most what the programs have room for.
--
-- Where the numbers come from. Let the programs of an FDE and of its CIE have e and q bytes, let the FDE have n changes, and let
-- the rules of one row take at most w bytes in the normal form.
-- - A rule takes at most 6 times the bytes that give it, and an FDE has at most one change more than instructions that move the
--   location. These are bytes of the same programs, so 6 n + w ≤ 6 (e + q) + 6.
-- - A change takes at most 23 + w bytes. The CIE that the FDE's group begins with takes no more, so there are n + 1 such changes.
-- - Beside their programs the FDE's entry takes at most 31 bytes and the CIE's at most 24, which is 55. So both entries take at
--   most (n + 1) (23 + w) + 55 bytes.
-- - The first line gives 6 (n + 1) + (23 + w) ≤ 6 (e + q) + 35, since 6 + 6 + 23 is 35.
-- - A product is at most a quarter of the square of the sum of its factors, so 4 * 6 (n + 1) (23 + w) ≤ (6 (e + q) + 35)^2.
--   This is 24 times the product; 24 times 55 is 1320.
use Rattle.std.specs.Prelude.{◌≡◌, ℕ, ◌+◌, ◌*◌, ◌≤◌, List, [], ◌∷◌, length, map}
use Rattle.dw_num.specs.{Input.AreBytes, declared.target.Target.Target}
use Rattle.dw_section.specs.{Meaning.HasLengths, declared.lookup.Fde.Fde}
use Rattle.dw_canon.specs.{Members.fde_of, Normal.IsNormalForm}

-- 24 times the bytes of an FDE and of a CIE are at most this, by the bytes of the FDE's program and of its CIE's
abbrev pub share : ℕ → ℕ → ℕ
share own initial = let spread = 6 * (own + initial) + 35 in spread * spread + 1320

-- the shares of these FDEs of a section add up to so much
abbrev pub Shares : Target → List ℕ → List Fde → ℕ → Type 0
Shares target s [] n = n ≡ 0
Shares target s (f ∷ fs) n = (own : ℕ) × (initial : ℕ) × (rest : ℕ) × HasLengths target s f own initial × (n ≡ share own initial + rest) × Shares target s fs rest

-- 24 times the length of the normal form of an accepted section is at most the shares of its FDEs
abbrev pub WithinShares : Type 0
WithinShares = (target : Target) (s n : List ℕ) (sum : ℕ) → AreBytes s → (h : IsNormalForm target s n) → Shares target s (map fde_of h.members) sum → 24 * length n ≤ sum
