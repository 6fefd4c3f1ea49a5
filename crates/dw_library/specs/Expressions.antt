-- What a caller in C is told of the expressions of a row.
use Rattle.std.specs.Prelude.{◌≡◌, ◌⊎◌, ◌+◌, ◌<◌, ◌≤◌, ℕ, List, [], ◌∷◌, ◌++◌, length, drop, Option, Some, None}
use Rattle.dw_num.specs.declared.{refusal.Refusal.Refusal, target.Target.Target}
use Rattle.dw_op.specs.{Expression.{Expression as Operations}, Faults.IsWithin, Least.LeastBlock}
use Rattle.dw_row.specs.{Rows.Rules, declared.rule.{CfaRule.CfaRule, RegRule.{RegRule, TheVariants.{Expression, ValExpression}}}}
use Rattle.dw_row.specs.declared.rule.CfaRule.TheVariants as cfa
use Rattle.dw_section.specs.{Meaning.{AreFdes, NoneCovers, RulesAt}, Ranges.{LeadsTo, Ranged, Uncovered, IsTable}}
use Rattle.dw_section.specs.{StandingFde.{LookUpFault, Misleads, Ruled, RulesOf}, declared.lookup.Fde.Fde}
use Rattle.dw_library.specs.Answers.{ok, refused, out_of_memory, bad_argument, too_short, not_refused, told}
use Rattle.dw_library.specs.declared.{answer.Refused.Refused, expressions.Block.Block, expressions.Blocks.Blocks}

-- ---- the expressions of a row, each under its column

abbrev pub in_cfa : CfaRule → List (ℕ × Operations)
in_cfa (cfa.Expression e) = (65536, e) ∷ []
in_cfa rule = []

abbrev pub in_rule : ℕ → RegRule → List (ℕ × Operations)
in_rule r (Expression e) = (r, e) ∷ []
in_rule r (ValExpression e) = (r, e) ∷ []
in_rule r rule = []

abbrev pub in_rules : List (ℕ × RegRule) → List (ℕ × Operations)
in_rules [] = []
in_rules (entry ∷ entries) = in_rule entry.0 entry.1 ++ in_rules entries

-- that of the CFA, and then those of the registers, ascending
abbrev pub expressions_of : Rules → List (ℕ × Operations)
expressions_of row = in_cfa row.cfa ++ in_rules row.registers

-- ---- their blocks

-- the least blocks of expressions one after another, and where each of them stands, the first at a place
abbrev pub AreBlocks : ℕ → List (ℕ × Operations) → List Block → List ℕ → Type 0
AreBlocks place [] blocks bytes = (blocks ≡ []) × (bytes ≡ [])
AreBlocks place (entry ∷ entries) blocks bytes =
    (block : List ℕ) × (others : List Block) × (rest : List ℕ)
    × LeastBlock entry.1.target entry.1.ops block
    × (blocks ≡ record { column = entry.0; reserved = 0; place = place; len = length block } ∷ others)
    × (bytes ≡ block ++ rest)
    × AreBlocks (place + length block) entries others rest

-- ---- what is told of them

-- the buffers that a caller lends
pub record Buffers : Type 0 where
  pub blocks : List Block
  pub bytes : List ℕ

pub record Told : Type 0 where
  pub status : ℕ
  pub buffers : Buffers
  pub all : Blocks

abbrev pub no_blocks : Blocks
no_blocks = record { count = 0; len = 0 }

-- a status alone
abbrev pub says : ℕ → Buffers → Told
says status old = record { status = status; buffers = old; all = no_blocks }

-- at the front of both buffers, where both have the room; else both stay
abbrev pub ArePut : List Block → List ℕ → Buffers → ℕ → Buffers → Type 0
ArePut blocks bytes old status new =
    ((status ≡ ok) × (length blocks ≤ length old.blocks) × (length bytes ≤ length old.bytes)
    × (new ≡ record { blocks = blocks ++ drop (length blocks) old.blocks; bytes = bytes ++ drop (length bytes) old.bytes }))
    ⊎ ((status ≡ too_short) × ((length old.blocks < length blocks) ⊎ (length old.bytes < length bytes)) × (new ≡ old))

-- the expressions of a row, and how many they are and how many bytes they take
abbrev pub TellsBlocks : Rules → Buffers → Told → Type 0
TellsBlocks row old t =
    (blocks : List Block) × (bytes : List ℕ) × AreBlocks 0 (expressions_of row) blocks bytes
    × (t.all ≡ record { count = length blocks; len = length bytes }) × ArePut blocks bytes old t.status t.buffers

-- those of the rules that a section has at an address, or that no FDE covers it
abbrev pub TellsAt : Target → List ℕ → ℕ → Buffers → Told → Type 0
TellsAt target s a old t =
    ((row : Rules) × RulesAt target s a row × TellsBlocks row old t)
    ⊎ (((fs : List Fde) → AreFdes target s fs → NoneCovers a fs) × (t ≡ says 5 old))

-- those of the FDE that stands where an index leads, or that the index has none
abbrev pub TellsStanding : Target → List ℕ → List Ranged → ℕ → Buffers → Told → Type 0
TellsStanding target s index a old t =
    ((found : Ruled) × (at : ℕ) × LeadsTo index a at × RulesOf target s at a found × TellsBlocks found.row old t) ⊎ (Uncovered index a × (t ≡ says 5 old))

-- by the index of an accepted section
abbrev pub AreExpressions : Option Target → List ℕ → List Ranged → ℕ → Buffers → Told → Refused → Type 0
AreExpressions None s index a old t why = (t ≡ says bad_argument old) × (why ≡ not_refused)
AreExpressions (Some target) s index a old t why = IsTable target s index → (TellsAt target s a old t ⊎ (t ≡ says out_of_memory old)) × (why ≡ not_refused)

-- by any index: also that it is a bad one, or that what stands at its place is refused
abbrev pub AreAnyExpressions : Option Target → List ℕ → List Ranged → ℕ → Buffers → Told → Refused → Type 0
AreAnyExpressions None s index a old t why = (t ≡ says bad_argument old) × (why ≡ not_refused)
AreAnyExpressions (Some target) s index a old t why =
    ((TellsStanding target s index a old t ⊎ (t ≡ says out_of_memory old) ⊎ (Misleads target s index a × (t ≡ says 10 old))) × (why ≡ not_refused))
    ⊎ ((r : Refusal) × IsWithin s r × LookUpFault target s index a r × (t ≡ says refused old) × (why ≡ told 1 r))
