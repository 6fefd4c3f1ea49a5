-- What spells a step of a block.
use Rattle.std.specs.Prelude.{◌≡◌, ℕ, List, Bool, true, None}
use Rattle.dw_num.specs.{Fixed.Fixed, declared.target.Target.Target}
use Rattle.dw_op.specs.{Block.branch_target, OpSpells.{Code, OpSpells}, Profile.in_frame}
use Rattle.dw_op.specs.declared.operation.{Branch.Branch, Branch.TheVariants.{Bra, Skip}, Step.Step, Step.TheVariants.{Plain, Jump}}
use Rattle.dw_op.specs.declared.profile.{Profile.Profile, Profile.TheVariants.{Frame, Location}}

abbrev pub branch_code : Branch → ℕ
branch_code Bra = 0x28  -- DW_OP_bra
branch_code Skip = 0x2f  -- DW_OP_skip

-- an operation that is no branch, or a branch's code and the two bytes of its number
abbrev pub StepSpells : Target → Step → List ℕ → Type 0
StepSpells t (Plain op) part = OpSpells t op part × (branch_target op ≡ None)
StepSpells t (Jump branch number) part = Code (branch_code branch) (Fixed t.order 2 number) part

-- whether a rule of a frame may use it
abbrev pub step_in_frame : Step → Bool
step_in_frame (Plain op) = in_frame op
step_in_frame (Jump branch number) = true

abbrev pub step_allowed : Profile → Step → Bool
step_allowed Frame step = step_in_frame step
step_allowed Location step = true
