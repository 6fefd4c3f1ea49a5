-- What a memory holds.
use Rattle.std.specs.Prelude.{ℕ, zero, suc, ◌+◌, List, [], ◌∷◌, Option, Some, option_and_then, option_map}
use Rattle.dw_num.specs.{Fixed.fixed_number, declared.target.Order.Order}

-- the k bytes from an address on, none where one of them is missing
abbrev pub bytes_from : (ℕ → Option ℕ) → ℕ → ℕ → Option (List ℕ)
bytes_from byte address zero = Some []
bytes_from byte address (suc k) = option_and_then (λ b. option_map (λ bytes. b ∷ bytes) (bytes_from byte (address + 1) k)) (byte address)

-- the number that the k bytes from an address on spell
unfoldable pub number_in_memory : (ℕ → Option ℕ) → Order → ℕ → ℕ → Option ℕ
number_in_memory byte order address k = option_map (λ bytes. fixed_number order k bytes) (bytes_from byte address k)
