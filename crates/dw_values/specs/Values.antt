-- What the texts of options and operands say.
use Rattle.std.specs.Prelude.{ℕ, ◌==◌, ◌&&◌, nat_lt, if◌then◌else◌, List, length, drop, slice_index, codes, Option, Some, None, option_and_then}
use Rattle.std.specs.Str.{bytes_eq}
use Rattle.dw_num.specs.{Digits.{below, number_behind}, Target.address_limit}
use Rattle.dw_num.specs.declared.target.{Order.Order, Order.TheVariants.{Little, Big}, Size.Size, Size.TheVariants.{Four, Eight}}

-- ---- words of a list

abbrev pub size_of : List ℕ → Option Size
size_of text = if bytes_eq text (codes "4") then Some Four else (if bytes_eq text (codes "8") then Some Eight else None)

abbrev pub order_of : List ℕ → Option Order
order_of text = if bytes_eq text (codes "little") then Some Little else (if bytes_eq text (codes "big") then Some Big else None)

-- ---- numbers

-- one or more decimal digits, of a number of 64 bits
abbrev pub decimal : List ℕ → Option ℕ
decimal text = if length text == 0 then None else option_and_then (below 18446744073709551616) (number_behind 10 0 text)

-- `0x` and 1 to 16 hexadecimal digits, of an address
abbrev pub address : Size → List ℕ → Option ℕ
address size text =
    if nat_lt 2 (length text) && (nat_lt (length text) 19 && (slice_index text 0 == 48 && slice_index text 1 == 120))
    then option_and_then (below (address_limit size)) (number_behind 16 0 (drop 2 text)) else None
