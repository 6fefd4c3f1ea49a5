-- The bytes of an instruction in the normal form: DWARF 5, 7.24, where the code factor is 1 and the data factor is -1. Each
-- number has its shortest spelling, and `block` gives an expression's operations theirs.
use Rattle.std.specs.{Prelude.{ℕ, ◌+◌, ◌++◌, neg_ℤ, unsigned_abs, List, [], ◌∷◌, length, nat_lt, if◌then◌else◌}, Int.{is_negative, is_positive}, List.flat_map}
use Rattle.dw_num.specs.{Fixed.fixed_bytes, Shortest.{shortest_uleb, shortest_sleb}, Target.byte_count}
use Rattle.dw_num.specs.declared.target.{Order.Order, Target.Target}
use Rattle.dw_op.specs.declared.op.Op.{Op}
use Rattle.dw_row.specs.declared.rule.RegRule.{RegRule}
use Rattle.dw_row.specs.declared.rule.RegRule.TheVariants as rules
use Rattle.dw_cfa.specs.declared.instr.Instr.TheVariants.{Nop, SetLoc, Advance, DefCfa, DefCfaRegister, DefCfaOffset, DefCfaExpression, Set, Restore}
use Rattle.dw_cfa.specs.declared.instr.Instr.TheVariants.{RememberState, RestoreState}
use Rattle.dw_cfa.specs.declared.instr.Instr.{Instr}

-- a block behind its length
abbrev pub counted_block : List ℕ → List ℕ
counted_block block = shortest_uleb (length block) ++ block

-- the shortest advance
abbrev pub advance_bytes : Order → ℕ → List ℕ
advance_bytes order delta =
    if nat_lt delta 64 then (0x40 + delta) ∷ []  -- DW_CFA_advance_loc
    else if nat_lt delta 256 then 0x02 ∷ fixed_bytes order 1 delta  -- DW_CFA_advance_loc1
    else if nat_lt delta 65536 then 0x03 ∷ fixed_bytes order 2 delta  -- DW_CFA_advance_loc2
    else 0x04 ∷ fixed_bytes order 4 delta  -- DW_CFA_advance_loc4

-- a code with the register in it where that is below 64, else another with the register behind it
abbrev pub packed : ℕ → ℕ → ℕ → List ℕ
packed low code r = if nat_lt r 64 then (low + r) ∷ [] else code ∷ shortest_uleb r

abbrev pub rule_bytes : (List Op → List ℕ) → ℕ → RegRule → List ℕ
-- no instruction gives it
rule_bytes block r rules.Unspecified = []
rule_bytes block r rules.Undefined = 0x07 ∷ shortest_uleb r  -- DW_CFA_undefined
rule_bytes block r rules.SameValue = 0x08 ∷ shortest_uleb r  -- DW_CFA_same_value
-- an offset that is not above 0 is an unsigned operand times -1
rule_bytes block r (rules.Offset n) =
    if is_positive n then 0x11 ∷ (shortest_uleb r ++ shortest_sleb (neg_ℤ n))  -- DW_CFA_offset_extended_sf
    else packed 0x80 0x05 r ++ shortest_uleb (unsigned_abs n)  -- DW_CFA_offset or DW_CFA_offset_extended
rule_bytes block r (rules.ValOffset n) =
    if is_positive n then 0x15 ∷ (shortest_uleb r ++ shortest_sleb (neg_ℤ n))  -- DW_CFA_val_offset_sf
    else 0x14 ∷ (shortest_uleb r ++ shortest_uleb (unsigned_abs n))  -- DW_CFA_val_offset
rule_bytes block r (rules.Register q) = 0x09 ∷ (shortest_uleb r ++ shortest_uleb q)  -- DW_CFA_register
rule_bytes block r (rules.Expression e) = 0x10 ∷ (shortest_uleb r ++ counted_block (block e.ops))  -- DW_CFA_expression
rule_bytes block r (rules.ValExpression e) = 0x16 ∷ (shortest_uleb r ++ counted_block (block e.ops))  -- DW_CFA_val_expression

unfoldable pub instr_bytes : (List Op → List ℕ) → Target → Instr → List ℕ
instr_bytes block t Nop = 0x00 ∷ []  -- DW_CFA_nop
instr_bytes block t (SetLoc a) = 0x01 ∷ fixed_bytes t.order (byte_count t.size) a  -- DW_CFA_set_loc
instr_bytes block t (Advance delta) = advance_bytes t.order delta
-- the CFA's offset has no factor where it is not negative, else the factor -1
instr_bytes block t (DefCfa r n) =
    if is_negative n then 0x12 ∷ (shortest_uleb r ++ shortest_sleb (neg_ℤ n))  -- DW_CFA_def_cfa_sf
    else 0x0c ∷ (shortest_uleb r ++ shortest_uleb (unsigned_abs n))  -- DW_CFA_def_cfa
instr_bytes block t (DefCfaRegister r) = 0x0d ∷ shortest_uleb r  -- DW_CFA_def_cfa_register
instr_bytes block t (DefCfaOffset n) =
    if is_negative n then 0x13 ∷ shortest_sleb (neg_ℤ n)  -- DW_CFA_def_cfa_offset_sf
    else 0x0e ∷ shortest_uleb (unsigned_abs n)  -- DW_CFA_def_cfa_offset
instr_bytes block t (DefCfaExpression e) = 0x0f ∷ counted_block (block e.ops)  -- DW_CFA_def_cfa_expression
instr_bytes block t (Set r rule) = rule_bytes block r rule
instr_bytes block t (Restore r) = packed 0xc0 0x06 r  -- DW_CFA_restore or DW_CFA_restore_extended
-- the normal form has neither
instr_bytes block t RememberState = 0x0a ∷ []  -- DW_CFA_remember_state
instr_bytes block t RestoreState = 0x0b ∷ []  -- DW_CFA_restore_state

abbrev pub program_bytes : (List Op → List ℕ) → Target → List Instr → List ℕ
program_bytes block t instrs = flat_map (instr_bytes block t) instrs
