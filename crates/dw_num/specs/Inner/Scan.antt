-- What a scan for the LEB at the front of a list finds.
use Rattle.std.specs.Prelude.{◌≡◌, ℕ, ◌≤◌, ◌^◌, List, Option, Some, None, option_map, suc}
use Rattle.std.specs.{Prelude.{◌+◌, ◌*◌, [], ◌∷◌, Bool, true, false, ℤ, pos, negsuc, FitsSigned}, Int.w64}
use Rattle.std.specs.Prelude.{if◌then◌else◌, nat_lt, take, Result, Ok, Err}
use Rattle.dw_num.specs.{Front.fits_signed, Leb.{groups, signed_groups}, Shortest.turned}
use Rattle.dw_num.specs.declared.refusal.{Code.Code, Code.TheVariants.{Truncated, NumberTooLarge}}

-- i more
abbrev pub further : ℕ → Option ℕ → Option ℕ
further i o = option_map (λ n. i + n) o

-- a sum so far, unless it passes 64 bits
abbrev pub IsTotal : ℕ → Option ℕ → Type 0
IsTotal sum None = 2 ^ 64 ≤ sum
IsTotal sum (Some total) = total ≡ sum

-- the sum over i of these bits of byte i, times 128 ^ (k + i)
abbrev pub turned_from : Bool → ℕ → List ℕ → ℕ
turned_from t k [] = 0
turned_from t k (b ∷ bs) = turned t b * 128 ^ k + turned_from t (suc k) bs

-- the number of a sum that is turned over, or not
abbrev pub as_signed : Bool → ℕ → ℤ
as_signed true m = negsuc m
as_signed false m = pos m

-- a signed number, unless it passes 64 bits
abbrev pub IsSignedTotal : ℤ → Option ℤ → Type 0
IsSignedTotal v None = FitsSigned w64 v → ⊥
IsSignedTotal v (Some n) = n ≡ v

-- the number at the front and its length, where that many bytes spell it, or what is wrong with it
abbrev pub unsigned_of : Option ℕ → List ℕ → Result (ℕ × ℕ) Code
unsigned_of None bs = Err Truncated
unsigned_of (Some n) bs = if nat_lt (groups (take n bs)) (2 ^ 64) then Ok (groups (take n bs), n) else Err NumberTooLarge

abbrev pub signed_of : Option ℕ → List ℕ → Result (ℤ × ℕ) Code
signed_of None bs = Err Truncated
signed_of (Some n) bs = if fits_signed (signed_groups (take n bs)) then Ok (signed_groups (take n bs), n) else Err NumberTooLarge
