-- What a target says of addresses.
use Rattle.std.specs.Prelude.{ℕ}
use Rattle.dw_num.specs.declared.target.{Size.Size, Size.TheVariants.{Four, Eight}}

-- how many bytes an address has
abbrev pub byte_count : Size → ℕ
byte_count Four = 4
byte_count Eight = 8

-- 2 ^ N, the first number that is no address, where N is 32 or 64
abbrev pub address_limit : Size → ℕ
address_limit Four = 4294967296
address_limit Eight = 18446744073709551616
