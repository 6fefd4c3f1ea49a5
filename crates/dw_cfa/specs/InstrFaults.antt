-- What can't be read as a call frame instruction, and its fault: DWARF 5, 6.4.2 and 7.24. The operands are those of the table.
use Rattle.std.specs.Prelude.{◌≡◌, ◌⊎◌, ℕ, ◌+◌, List, ◌++◌, length, Option, Some, None, Err}
use Rattle.dw_num.specs.{Front.{fixed_at, take_at, register_at, uleb_at, sleb_at, address_at}, Input.{Input, Takes}, Leb.Uleb}
use Rattle.dw_num.specs.declared.refusal.{Code.TheVariants.{UnknownInstruction, OffsetTooLarge}, Refusal.Refusal}
use Rattle.dw_op.specs.{Faults.BlockFault, declared.profile.Profile.TheVariants.Frame}
use Rattle.dw_cfa.specs.{InstrSpells.{OperandSpells, InstrFormSpells, IsOffset}, Operands.{Operand, address, fixed, register, unsigned}}
use Rattle.dw_cfa.specs.{Operands.{signed, expression, OperandValue, InstrForm, none, one, two, offset_of}, declared.instr.Instr.Instr}

-- fewer than n bytes are left, or the n bytes are no block of the frame profile: the place of its fault counts from its first byte
abbrev pub ContentsFault : ℕ → Input → Refusal → Type 0
ContentsFault n i r =
    (take_at n i ≡ Err r)
    ⊎ ((block rest : List ℕ) × (q : Refusal) × (i.bytes ≡ block ++ rest) × (length block ≡ n) × BlockFault Frame i.target block q × (r ≡ record { code = q.code; at = i.at + q.at }))

-- the operand at the front can't be read: of an expression its length, or the block behind that
abbrev pub OperandFault : Operand → Input → Refusal → Type 0
OperandFault address i r = address_at i ≡ Err r
OperandFault (fixed n) i r = fixed_at n i ≡ Err r
OperandFault register i r = register_at i ≡ Err r
OperandFault unsigned i r = uleb_at i ≡ Err r
OperandFault signed i r = sleb_at i ≡ Err r
OperandFault expression i r = (uleb_at i ≡ Err r) ⊎ ((n : ℕ) × (front : List ℕ) × (new : Input) × Uleb n front × Takes i front new × ContentsFault n new r)

-- one of the operands is the first that can't be read
abbrev pub FormFault : InstrForm → Input → Refusal → Type 0
FormFault (none made) i r = ⊥
FormFault (one o make) i r = OperandFault o i r
FormFault (two o p make) i r = OperandFault o i r ⊎ ((x : OperandValue o) × (front : List ℕ) × (new : Input) × OperandSpells i.target o x front × Takes i front new × OperandFault p new r)

-- the code at this place is no instruction's; or an operand behind it can't be read; or all can, and the offset is too large
abbrev pub CodeFault : ℕ → Option InstrForm → Input → Refusal → Type 0
CodeFault at None i r = r ≡ record { code = UnknownInstruction; at = at }
CodeFault at (Some form) i r =
    FormFault form i r
    ⊎ ((instr : Instr) × (front rest : List ℕ) × (i.bytes ≡ front ++ rest) × InstrFormSpells i.target form instr front × (IsOffset (offset_of instr) → ⊥) × (r ≡ record { code = OffsetTooLarge; at = at }))
