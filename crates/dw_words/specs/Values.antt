-- What the texts of options and operands say, beside the sizes, orders and numbers of dw_values.
use Rattle.std.specs.{Prelude.{ℕ, if◌then◌else◌, List, [], ◌∷◌, codes, Option, Some, None, option_and_then, option_map}, Result.result_ok, Str.bytes_eq}
use Rattle.clap.specs.Words.{Text}
use Rattle.hex.specs.Hex.{decode_of}
use Rattle.dw_num.specs.Digits.{below}
use Rattle.dw_op.specs.declared.profile.{Profile.Profile, Profile.TheVariants.{Frame, Location}}
use Rattle.dw_eval.specs.declared.policy.{Policy.Policy, Policy.TheVariants.{SameValue, Undefined}}
use Rattle.dw_values.specs.Values.{decimal}

-- ---- words of a list

abbrev pub default_of : Text → Option Policy
default_of text = if bytes_eq text (codes "same") then Some SameValue else (if bytes_eq text (codes "undefined") then Some Undefined else None)

-- what clap gives a flag: `true` where the words have it, else `false`
abbrev pub profile_of : Text → Option Profile
profile_of text = if bytes_eq text (codes "true") then Some Frame else (if bytes_eq text (codes "false") then Some Location else None)

-- ---- numbers

-- all texts of a list, each read so
abbrev pub all_read : {T : Type 0} → (Text → Option T) → List Text → Option (List T)
all_read read [] = Some []
all_read read (text ∷ texts) = option_and_then (λ v. option_map (λ vs. v ∷ vs) (all_read read texts)) (read text)

-- a number of bytes, no more than a section has
abbrev pub cap_of : Text → Option ℕ
cap_of text = option_and_then (below 2147483648) (decimal text)

-- ---- bytes

-- two hexadecimal digits a byte
abbrev pub block_of : Text → Option (List ℕ)
block_of text = result_ok (decode_of text)
