-- How the code lists changes of registers without memory, by a kind, a register and a number each,
-- and what taking them back leaves.
use Rattle.std.specs.Prelude.{◌≡◌, ℕ, zero, suc, ◌≤◌, ◌%◌, ℤ, pos, List, [], ◌∷◌, ◌++◌, length}
use Rattle.std.specs.Prelude.{drop, Bool, true, false, nat_eq, ◌||◌, ◌⊎◌}
use Rattle.std.specs.Int.{cast_unsigned, w64}
use Rattle.std.proofs.Math.ListN.{get_or}
use Rattle.dw_row.specs.Rows.{put}
use Rattle.dw_row.specs.declared.{change_list.{Change.Change, Kind.Kind}, rule.RegRule.RegRule}
use Rattle.dw_row.specs.declared.rule.RegRule.TheVariants as rules
use Rattle.dw_row.specs.declared.change_list.Kind.TheVariants as kinds

-- what is listed
pub record Listed : Type 0 where
  pub items : List Change

abbrev pub change : ℕ → RegRule → Change
change r rule = record { register = r; rule = rule }

-- the registers before changes, which are taken back from the last one on
unfoldable pub registers_before : List (ℕ × RegRule) → List Change → List (ℕ × RegRule)
registers_before registers [] = registers
registers_before registers (c ∷ changes) =
    put c.register c.rule (registers_before registers changes)

-- whether a register is among those that changed
unfoldable pub has_register : ℕ → List Change → Bool
has_register r [] = false
has_register r (c ∷ changes) = nat_eq c.register r || has_register r changes

-- a register's rule is listed last, or a change of that register was behind the first `from`
abbrev pub Lists : ℕ → ℕ → RegRule → List Change → List Change → Type 0
Lists from r rule changes changes' =
    ((has_register r (drop from changes) ≡ true) × (changes' ≡ changes))
    ⊎ (changes' ≡ changes ++ change r rule ∷ [])

-- the rule that an entry lists
abbrev pub plain_rule : Kind → ℤ → RegRule
plain_rule kinds.Unspecified n = rules.Unspecified
plain_rule kinds.Undefined n = rules.Undefined
plain_rule kinds.SameValue n = rules.SameValue
plain_rule kinds.Offset n = rules.Offset n
plain_rule kinds.ValOffset n = rules.ValOffset n
plain_rule kinds.Register n = rules.Register (cast_unsigned w64 n % 65536)

abbrev pub IsEntryOf : RegRule → Kind × ℤ → Type 0
IsEntryOf rule entry = plain_rule entry.0 entry.1 ≡ rule

-- the first entries
unfoldable pub first_changes : List Kind → List ℕ → List ℤ → ℕ → List Change
first_changes ks rs ns zero = []
first_changes ks rs ns (suc n) =
    let rule = plain_rule (get_or ks n kinds.Unspecified) (get_or ns n (pos 0)) in
    first_changes ks rs ns n ++ change (get_or rs n 0) rule ∷ []

-- the entries in place, and what is listed behind them
abbrev pub listed_in : List Kind → List ℕ → List ℤ → ℕ → List Change → Listed
listed_in ks rs ns count rest = record { items = first_changes ks rs ns count ++ rest }

-- there are 192 places
abbrev pub PlacesSo : List Kind → List ℕ → List ℤ → ℕ → Type 0
PlacesSo ks rs ns count =
    (length ks ≡ 192) × (length rs ≡ 192) × (length ns ≡ 192) × (count ≤ 192)
