-- How values of registers are kept: those below 128 in places of their own, the others in a list behind them.
use Rattle.std.specs.Prelude.{◌≡◌, ◌==◌, ◌-◌, ◌≤◌, ℕ, zero, suc, nat_lt, Bool, false, List, [], ◌∷◌, length, get_or, Option, Some, None, if◌then◌else◌}
use Rattle.dw_eval.specs.Registers.{held}

-- what a register holds that has a place
abbrev pub near_held : List Bool → List ℕ → ℕ → Option ℕ
near_held known values register = if get_or known register false then Some (get_or values register 0) else None

-- and one that has none
abbrev pub far_held : List (Option ℕ) → ℕ → Option ℕ
far_held far register = held far (register - 128)

-- and any one
unfoldable pub any_held : List Bool → List ℕ → List (Option ℕ) → ℕ → Option ℕ
any_held known values far register = if nat_lt register 128 then near_held known values register else far_held far register

-- what the first registers hold
unfoldable pub first_held : (ℕ → Option ℕ) → ℕ → List (Option ℕ)
first_held f zero = []
first_held f (suc n) = f 0 ∷ first_held (λ k. f (suc k)) n

-- there is a place for each register below 128, and none from the end on holds a value
pub record PlacesSo (known : List Bool) (values : List ℕ) (far : List (Option ℕ)) (end : ℕ) : Type 0 where
  pub known_count : length known ≡ 128
  pub value_count : length values ≡ 128
  pub most : end ≤ 65536
  pub beyond : (r : ℕ) → end ≤ r → any_held known values far r ≡ None

-- a register holds a value, and every other one what it held
abbrev pub IsHeld : ℕ → ℕ → (ℕ → Option ℕ) → (ℕ → Option ℕ) → Type 0
IsHeld register value old new = (r : ℕ) → new r ≡ (if r == register then Some value else old r)
