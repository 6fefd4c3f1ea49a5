-- The row of an address, found row by row from the end.
use Rattle.std.proofs.{Common.{◌≡◌, ℕ, ◌<◌, ◌≤◌, List, [], ◌∷◌, ◌++◌, Some, None, refl, ap, subst, arith}, lemmas.Bool.{le-leb, lt-leb}}
use Rattle.dw_num.specs.{Input.{Input, AreBytes}, Target.address_limit}
use Rattle.dw_row.specs.Rows.{Rules}
use Rattle.dw_cfa.specs.{Gives.Gives, InitialRules.HoldsAfter, InstrSpells.ProgramSpells, Location.Counts, RowLaws.{LastHolds, OneCount}}
use Rattle.dw_cfa.specs.{RuleAt.{last_at, or_here}, declared.{execution.LocatedRow.LocatedRow, instr.{Factors.Factors, Instr.Instr}}}

-- the last row is that of an address at or above its start
pub taken : (a : ℕ) (rows : List LocatedRow) (last : LocatedRow) → last.location ≤ a → last_at a (rows ++ last ∷ []) ≡ Some last.row
taken a [] last le = rw (le-leb last.location a le) refl
taken a (row ∷ rows) last le = ap (or_here a row) (taken a rows last le)

-- below its start it is one before it
pub passed : (a : ℕ) (rows : List LocatedRow) (last : LocatedRow) → a < last.location → last_at a (rows ++ last ∷ []) ≡ last_at a rows
passed a [] last lt = rw (lt-leb last.location a lt) refl
passed a (row ∷ rows) last lt = ap (or_here a row) (passed a rows last lt)

-- a row has in each column the rule at an address
abbrev pub HoldsAt : ℕ → List Instr → List Instr → ℕ → Rules → Type 0
HoldsAt begin initial instrs a row = (k : ℕ) × Counts begin instrs a k × HoldsAfter initial instrs k row

-- the row of an address among those that two programs give
pub row_at : LastHolds → OneCount → (f : Factors) (cie fde : Input) (begin a : ℕ) → AreBytes cie.bytes → AreBytes fde.bytes → begin < address_limit fde.target.size → begin ≤ a
    → (rows : List LocatedRow) → Gives f cie fde begin rows → (initial instrs : List Instr) → ProgramSpells cie.target f initial cie.bytes → ProgramSpells fde.target f instrs fde.bytes
    → (row : Rules) × (last_at a rows ≡ Some row) × HoldsAt begin initial instrs a row
row_at last count f cie fde begin a cie_bytes fde_bytes within start rows gives initial instrs p q =
    let (k, counts, one) = count begin instrs a start in
    let (row, at, holds) = last f cie fde begin cie_bytes fde_bytes (omega (arith, within)) rows gives initial instrs p q a k start counts in
    (row, at, (k, counts, holds))

-- so there is one
pub one_found : LastHolds → OneCount → (f : Factors) (cie fde : Input) (begin a : ℕ) → AreBytes cie.bytes → AreBytes fde.bytes → begin < address_limit fde.target.size → begin ≤ a
    → (rows items : List LocatedRow) → items ≡ rows → Gives f cie fde begin rows → last_at a items ≡ None → ⊥
one_found last count f cie fde begin a cie_bytes fde_bytes within start rows items same gives none =
    let (cie_instrs, initial, leaves, behind) = gives in
    let (row, at, holds) = row_at last count f cie fde begin a cie_bytes fde_bytes within start rows gives cie_instrs behind.instrs leaves.program behind.program in
    absurd cc

-- and a copy of it holds the same
pub held : (a : ℕ) (rows items : List LocatedRow) (row copy : Rules) (P : Rules → Type 0) → items ≡ rows → last_at a items ≡ Some row → copy ≡ row → (x : Rules) × (last_at a rows ≡ Some x) × P x → P copy
held a rows items row copy P same is copied (x, at, p) = let e : x ≡ copy = cc in subst P e p
