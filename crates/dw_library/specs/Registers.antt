-- Registers as C gives them and is told them.
use Rattle.std.specs.Prelude.{ℕ, List, [], ◌∷◌, Option, Some, None, nat_eq, if◌then◌else◌}
use Rattle.dw_library.specs.{Answers.AreAtFront, declared.held.Register.Register}

-- a value, or else another one
abbrev pub first_of : Option ℕ → Option ℕ → Option ℕ
first_of None other = other
first_of (Some v) other = Some v

-- what a register gives the register r
abbrev pub value_in : Register → ℕ → Option ℕ
value_in g r = if nat_eq g.known 0 then None else (if nat_eq r g.number then Some g.value else None)

-- the value of the first that is known
abbrev pub given_in : List Register → ℕ → Option ℕ
given_in [] r = None
given_in (g ∷ gs) r = first_of (value_in g r) (given_in gs r)

abbrev pub told_register : ℕ × Option ℕ → Register
told_register (r, Some v) = record { number = r; known = 1; reserved = 0; value = v }
told_register (r, None) = record { number = r; known = 0; reserved = 0; value = 0 }

abbrev pub AreTold : List Register → List Register → ℕ → List Register → Type 0
AreTold registers old status new = AreAtFront registers old status new
