-- An FDE that is written.
use Rattle.std.specs.Prelude.{◌≡◌, ◌⊎◌, ◌++◌, ◌<◌, ℕ, Bool, List, length, slice_index_or, IsTrue, IfOk, IfErr, Result}
use Rattle.dw_num.specs.{Fixed.fixed_bytes, declared.target.Target.Target}
use Rattle.dw_section.specs.Table.{Section}
use Rattle.dw_canon.specs.{Members.Member, Inner.Written.{Written, contents}}
use Rattle.dw_normal.specs.declared.{begun.Begun.Begun, output.{Output.Output, Stop.Stop, Stop.TheVariants.Full}}
use Rattle.dw_normal.specs.Inner.{Begun.IsBegun, Lengths.fdes_bytes, Listed.{OfBoth, OfMembers}, Places.{fde_at, fde_with}, Puts.Fills}

-- the table whose FDE it is
abbrev pub table_of : Begun → Section
table_of b = b.ready.now.table

-- its FDEs, which are these, as they are written
abbrev pub all_fdes : Section → List Member → List ℕ
all_fdes table ms = fdes_bytes table.target ms ms

-- an entry without its length, for which there is room
abbrev pub unsized : Target → Written → List ℕ
unsized t w = fixed_bytes t.order 4 0 ++ contents t w

-- the entry is made that of an FDE that was begun
abbrev pub FillsBegun : Target → Begun → Result Unit Stop → Output → Output → Type 0
FillsBegun t b result old new = (ms : List Member) (m : Member) → IsBegun ms m b → Fills (unsized t (fde_at t b.cie_at ms m)) result old new

-- or of the FDE at a place of a table
abbrev pub FillsListed : Section → ℕ → Result Unit Stop → Output → Output → Type 0
FillsListed table place result old new = OfMembers table (λ ms. (d : Member) → Fills (unsized table.target (fde_with table.target ms (slice_index_or ms place d))) result old new)

-- a test of two sections: yes where they say the same, and only where they are written alike
abbrev pub Likens : Type 0 → Type 0 → Bool → Type 0
Likens same alike b = (same → IsTrue b) × (IsTrue b → alike)

-- of two tables: by some bytes of each
abbrev pub Compares : {E : Type 0} → Section → Section → (Section → List Member → List ℕ) → Result Bool E → Type 0
Compares one two bytes result = OfBoth one two (λ ms ns. IfOk result (Likens (ms ≡ ns) (bytes one ms ≡ bytes two ns)))

-- where the answer is that there is no room, the bytes of one of them are more than the room for them
abbrev pub LacksRoom : {A : Type 0} → Section → Section → (Section → List Member → List ℕ) → ℕ → ℕ → Result A Stop → Type 0
LacksRoom one two bytes room other result = OfBoth one two (λ ms ns. IfErr result (λ stop. stop ≡ Full → (room < length (bytes one ms)) ⊎ (other < length (bytes two ns))))
