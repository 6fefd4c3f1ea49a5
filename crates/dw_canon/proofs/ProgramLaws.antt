-- The laws of programs.
use Rattle.dw_canon.specs.Inner.Laws.{InitialProgram, MemberProgram, ChangesAreOne}
use Rattle.dw_canon.proofs.Words.{◌≡◌, ℕ, List, subst, length, append-nil, address_limit, Instr, ProgramSpells, CieKept, FdeKept, initial_cfa, initial_rule, row_starts, rule, AreChanges, cie_instrs, fde_instrs}
use Rattle.dw_canon.proofs.{Words.{changes_of, program_bytes, factors, one_changes}, MemberLaws.{cie_spelled, cie_kept, cie_cfa, cie_rules, member_spelled, member_kept, member_changes, member_starts}}

-- without nops
pub initial_program : InitialProgram
initial_program t initial fits =
    subst (λ (l : List Instr). ProgramSpells t factors l (program_bytes t l) × CieKept l × (initial.cfa ≡ initial_cfa l) × ((r : ℕ) → rule initial r ≡ initial_rule l r)) (append-nil (cie_instrs initial))
    (cie_spelled t initial fits 0, cie_kept t initial fits 0, cie_cfa t initial fits 0, cie_rules t initial fits 0)

pub member_program : MemberProgram
member_program t initial m fits stands =
    let first = initial_program t initial fits in
    subst (λ (l : List Instr). ProgramSpells t factors l (program_bytes t l) × FdeKept (address_limit t.size) m.begin initial.cfa l × AreChanges (cie_instrs initial) l m.begin m.end (changes_of m) × (row_starts l ≡ length (changes_of m)))
    (append-nil (fde_instrs initial m))
    (member_spelled t initial fits m stands 0, member_kept t initial fits m stands 0, member_changes t initial fits m stands 0 (cie_instrs initial) first.2 first.3, member_starts t initial fits m stands 0)

pub changes_are_one : ChangesAreOne
changes_are_one initial instrs begin end xs ys some h g = one_changes initial instrs begin end xs ys h g
