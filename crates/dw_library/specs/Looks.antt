-- What a caller in C is told of many addresses.
use Rattle.std.specs.Prelude.{◌≡◌, ◌⊎◌, ◌<◌, ◌≤◌, ℕ, List, [], ◌++◌, length, take, drop, map, nat_le, if◌then◌else◌, Option, Some, None}
use Rattle.std.specs.List.{AllZip, flat_map}
use Rattle.dw_num.specs.declared.{refusal.Refusal.Refusal, target.Target.Target}
use Rattle.dw_section.specs.{Accepted.{Accepted, CheckFault}, Among.IsAmong}
use Rattle.dw_section.specs.{Meaning.{AreFdes, Covers, NoneCovers, RulesAt}, StandingFde.Ruled, declared.lookup.Fde.Fde}
use Rattle.dw_library.specs.{Answers.{ok, refused, out_of_memory, bad_argument, too_short, not_refused, told}, Index.{IsTold, no_row, over, rule_of}}
use Rattle.dw_library.specs.declared.{answer.Refused.Refused, index.Row.Row, index.Rule.Rule}

-- what is told of an address: a row, and the rules of its registers
pub record Look : Type 0 where
  pub row : Row
  pub rules : List Rule

-- those of the FDE that covers it, or none where none does
abbrev pub IsLook : Target → List ℕ → ℕ → Look → Type 0
IsLook target s a l =
    ((found : Ruled) × RulesAt target s a found.row × ((fs : List Fde) → AreFdes target s fs → IsAmong found.fde fs) × Covers a found.fde × IsTold found l.row × (l.rules ≡ map rule_of found.row.registers))
    ⊎ (((fs : List Fde) → AreFdes target s fs → NoneCovers a fs) × (l.row ≡ no_row) × (l.rules ≡ []))

-- of how many addresses a call told, with which status, rows and rules
pub record ToldRows : Type 0 where
  pub status : ℕ
  pub done : ℕ
  pub rows : List Row
  pub rules : List Rule

-- a status alone
abbrev pub tells : ℕ → List Row → List Rule → ToldRows
tells status rows rules = record { status = status; done = 0; rows = rows; rules = rules }

-- the rules of all of them, one after another
abbrev pub rules_in : List Look → List Rule
rules_in looks = flat_map (λ l. l.rules) looks

-- a row for each of the first addresses, and all their rules one after another, as many as fit
pub record TellsLooks (target : Target) (s asked : List ℕ) (rows : List Row) (rules : List Rule) (t : ToldRows) : Type 0 where
  pub looks : List Look
  pub each : AllZip (IsLook target s) (take t.done asked) looks
  pub rows_are : t.rows ≡ map (λ l. l.row) looks ++ drop t.done rows
  pub rules_are : t.rules ≡ over (rules_in looks) rules
  -- for all of them, unless memory ran out at one
  pub status_is : ((t.done ≡ length asked) × (t.status ≡ (if nat_le (length (rules_in looks)) (length rules) then ok else too_short))) ⊎ ((t.done < length asked) × (t.status ≡ out_of_memory))

-- the rows of addresses by a section that is accepted; or why there are none
abbrev pub AreLooks : Option Target → List ℕ → List ℕ → List Row → List Rule → ToldRows → Refused → Type 0
AreLooks None s asked rows rules t why = (t ≡ tells bad_argument rows rules) × (why ≡ not_refused)
AreLooks (Some target) s asked rows rules t why =
    (((length asked ≤ length rows) × Accepted target s × TellsLooks target s asked rows rules t) × (why ≡ not_refused))
    ⊎ ((length rows < length asked) × (t ≡ tells too_short rows rules) × (why ≡ not_refused))
    ⊎ ((t ≡ tells out_of_memory rows rules) × (why ≡ not_refused))
    ⊎ ((length asked ≤ length rows) × ((r : Refusal) × CheckFault target s r × (t ≡ tells refused rows rules) × (why ≡ told 1 r)))
