-- How the code asks how a program begins.
use Rattle.std.specs.Prelude.{Bool, true, false, List, [], ◌∷◌, Result, Ok, nat_lt, if◌then◌else◌}
use Rattle.dw_num.specs.declared.{refusal.Refusal.Refusal}
use Rattle.dw_cfa.specs.declared.instr.{Instr.Instr, Instr.TheVariants.{Nop, Advance, DefCfaOffset}}
use Rattle.dw_cfa.specs.declared.opening.{FirstRow.FirstRow, FirstRow.TheVariants.{Initial, CfaOffset, Other}}

-- of answers one after another
abbrev pub answers_move : List (Result Instr Refusal) → Bool
answers_move [] = true
answers_move (Ok Nop ∷ answers) = answers_move answers
answers_move (Ok (Advance delta) ∷ answers) = nat_lt 0 delta
answers_move (answer ∷ answers) = false

abbrev pub answers_row : List (Result Instr Refusal) → FirstRow
answers_row [] = Initial
answers_row (Ok Nop ∷ answers) = answers_row answers
answers_row (Ok (Advance delta) ∷ answers) = if nat_lt 0 delta then Initial else Other
answers_row (Ok (DefCfaOffset n) ∷ answers) = if answers_move answers then CfaOffset n else Other
answers_row (answer ∷ answers) = Other
