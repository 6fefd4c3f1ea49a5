-- A number as the code reads it, digit by digit.
use Rattle.std.specs.Prelude.{ℕ, ◌+◌, ◌*◌, List, [], ◌∷◌, Option, Some, option_and_then}
use Rattle.dw_num.specs.Digits.{below, digit}

-- a number of 64 bits with one digit more behind it
abbrev pub digit_behind : ℕ → ℕ → ℕ → Option ℕ
digit_behind base n c = option_and_then (λ d. below 18446744073709551616 (n * base + d)) (digit base c)

-- the number of the digits behind a number, unless it passes 64 bits on the way
abbrev pub checked_behind : ℕ → ℕ → List ℕ → Option ℕ
checked_behind base n [] = Some n
checked_behind base n (c ∷ cs) = option_and_then (λ m. checked_behind base m cs) (digit_behind base n c)
