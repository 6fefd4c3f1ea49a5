-- What the operations before a place of a block add up to.
use Rattle.std.specs.{Prelude.{ℕ, length, Option, Some, None, pos, ◌-ℤ◌, FitsSigned}, Int.{w16, cast_unsigned}}
use Rattle.dw_num.specs.{Input.Input, declared.target.Target.Target}
use Rattle.dw_op.specs.declared.{operation.Step.Step, operation.Step.TheVariants.{Plain, Jump}, profile.Profile.Profile, walk.Measure.Measure}
use Rattle.dw_op.specs.{declared.walk.Measure.TheVariants.{Operations, LeastBytes}, Inner.LeastOf.least_bytes, Inner.Walk.{walk, end_of, passed, one}}

-- a branch has a code and two bytes, wherever it goes
abbrev pub step_length : Target → Step → ℕ
step_length t (Plain op) = length (least_bytes t 0 op)
step_length t (Jump branch number) = 3

abbrev pub weight : Measure → Target → Step → ℕ
weight Operations t = one
weight LeastBytes t = step_length t

-- the sum before the operation that starts there
abbrev pub sum_in : Measure → Profile → Input → ℕ → Option ℕ
sum_in m profile i place = passed (weight m i.target) (walk profile i).items (end_of i) place

-- ---- displacements by where a branch ends and where it goes

-- sixteen signed bits hold it
abbrev pub IsNear : ℕ → Option ℕ → Type 0
IsNear end None = Unit {0}
IsNear end (Some goal) = FitsSigned w16 (pos goal -ℤ pos end)

abbrev pub bits_to : ℕ → Option ℕ → ℕ
bits_to end None = 0
bits_to end (Some goal) = cast_unsigned w16 (pos goal -ℤ pos end)
