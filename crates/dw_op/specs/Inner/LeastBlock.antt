-- Least blocks as a function, and how the code writes them: where spellings begin, and whether branches fit.
use Rattle.std.specs.{Prelude.{◌≡◌, ℕ, suc, ◌+◌, ◌≤◌, slice_index, List, [], ◌∷◌, ◌++◌, length, Option, Some, None, FitsSigned}, Int.{w16, cast_unsigned}}
use Rattle.dw_num.specs.declared.target.Target.{Target}
use Rattle.dw_op.specs.{Block.{branch_target, start, displacement, joined}, declared.op.Op.Op, Inner.LeastOf.least_bytes}

-- least spellings without displacements
abbrev pub blank_parts : Target → List Op → List (List ℕ)
blank_parts t [] = []
blank_parts t (op ∷ ops) = least_bytes t 0 op ∷ blank_parts t ops

-- the sixteen bits from operation k to where a branch goes
abbrev pub bits_of : List (List ℕ) → ℕ → Option ℕ → ℕ
bits_of parts k None = 0
bits_of parts k (Some i) = cast_unsigned w16 (displacement parts k i)

-- least spellings from operation k on, over parts of these lengths
abbrev pub least_from : Target → List (List ℕ) → ℕ → List Op → List (List ℕ)
least_from t parts k [] = []
least_from t parts k (op ∷ ops) = least_bytes t (bits_of parts k (branch_target op)) op ∷ least_from t parts (suc k) ops

unfoldable pub least_block : Target → List Op → List ℕ
least_block t ops = joined (least_from t (blank_parts t ops) 0 ops)

-- ---- how the code writes them

-- the sum of the least lengths
abbrev pub least_len : Target → List Op → ℕ
least_len t [] = 0
least_len t (op ∷ ops) = length (least_bytes t 0 op) + least_len t ops

-- where each of the first n parts begins, and where the last of them ends
pub record AreStarts (parts : List (List ℕ)) (n : ℕ) (starts : List ℕ) : Type 0 where
  pub count : length starts ≡ n + 1
  pub each : (i : ℕ) → i ≤ n → slice_index starts i ≡ start parts i

-- a branch's displacement has sixteen bits
abbrev pub BranchFits : List (List ℕ) → ℕ → Option ℕ → Type 0
BranchFits parts k None = Unit {0}
BranchFits parts k (Some i) = FitsSigned w16 (displacement parts k i)

abbrev pub EachFits : List (List ℕ) → ℕ → List Op → Type 0
EachFits parts k [] = Unit {0}
EachFits parts k (op ∷ ops) = BranchFits parts k (branch_target op) × EachFits parts (suc k) ops

-- all operations fit, and their least block stands behind what was there
abbrev pub IsWritten : Target → List Op → List ℕ → List ℕ → Type 0
IsWritten t ops old new = EachFits (blank_parts t ops) 0 ops × (new ≡ old ++ least_block t ops)

-- the bits of a branch's displacement, unless it does not fit
abbrev pub AreBits : List (List ℕ) → ℕ → Option ℕ → Option ℕ → Type 0
AreBits parts k target None = BranchFits parts k target → ⊥
AreBits parts k target (Some bits) = BranchFits parts k target × (bits ≡ bits_of parts k target)
