-- Entries as they are written: in the 32-bit form, each CIE of version 4 with the factors 1 and -1, each ended by nops.
use Rattle.std.specs.Prelude.{ℕ, ◌+◌, ◌-◌, ◌%◌, List, ◌∷◌, ◌++◌, length, replicate}
use Rattle.dw_num.specs.{Fixed.fixed_bytes, Shortest.shortest_uleb, Target.byte_count}
use Rattle.dw_num.specs.declared.target.{Form.TheVariants.Dwarf32, Size.Size, Target.Target}
use Rattle.dw_section.specs.Cut.{entry, item_bytes}

-- how many nops fill n bytes to a multiple of the address size
abbrev pub missing : Size → ℕ → ℕ
missing size n = (byte_count size - n % byte_count size) % byte_count size

-- the entry of these fields and this program, ended by nops; four bytes of length stand before them
abbrev pub written : Target → List ℕ → List ℕ → List ℕ
written target fields program =
    item_bytes target.order (entry Dwarf32 (fields ++ (program ++ replicate (missing target.size (4 + (length fields + length program))) 0)))

-- the id, version 4, no augmentation, the sizes, the factors, the register
abbrev pub cie_field_bytes : Target → ℕ → List ℕ
cie_field_bytes target register = fixed_bytes target.order 4 0xffffffff ++ (4 ∷ 0 ∷ byte_count target.size ∷ 0 ∷ 1 ∷ 127 ∷ shortest_uleb register)

abbrev pub fde_field_bytes : Target → ℕ → ℕ → ℕ → List ℕ
fde_field_bytes target cie_at begin range = fixed_bytes target.order 4 cie_at ++ (fixed_bytes target.order (byte_count target.size) begin ++ fixed_bytes target.order (byte_count target.size) range)
