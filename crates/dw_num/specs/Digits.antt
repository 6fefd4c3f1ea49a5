-- Numbers as texts spell them, digit by digit.
use Rattle.std.specs.Prelude.{ℕ, ◌+◌, ◌-◌, ◌*◌, ◌&&◌, nat_le, nat_lt, if◌then◌else◌, List, [], ◌∷◌, Option, Some, None, option_and_then}

-- a number, if it is below a limit
abbrev pub below : ℕ → ℕ → Option ℕ
below limit n = if nat_lt n limit then Some n else None

-- what a character stands for: `A` to `F`, `a` to `f`, and `0` to `9`
abbrev pub digit_value : ℕ → Option ℕ
digit_value c =
    if nat_le 65 c && nat_le c 70 then Some (c - 55)
    else if nat_le 97 c && nat_le c 102 then Some (c - 87)
    else if nat_le 48 c && nat_le c 57 then Some (c - 48)
    else None

-- the digit that a character is in a base of at most 16
abbrev pub digit : ℕ → ℕ → Option ℕ
digit base c = option_and_then (below base) (digit_value c)

-- the number of digits that follow others of the number before, the highest first
abbrev pub number_behind : ℕ → ℕ → List ℕ → Option ℕ
number_behind base before [] = Some before
number_behind base before (c ∷ cs) = option_and_then (λ d. number_behind base (before * base + d) cs) (digit base c)
