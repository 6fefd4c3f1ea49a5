-- How the code answers the row that an FDE begins with.
use Rattle.std.specs.Prelude.{ℕ, Option, Some, None}
use Rattle.dw_cfa.specs.declared.opening.{FirstRow.FirstRow, FirstRow.TheVariants.{Initial, CfaOffset, Other}}
use Rattle.dw_section.specs.declared.opening.CieRow.{CieRow}

-- the first row of a program, where the CIE stands at this place
abbrev pub row_behind : ℕ → FirstRow → Option CieRow
row_behind place Initial = Some (record { cie_at = place; cfa_offset = None })
row_behind place (CfaOffset n) = Some (record { cie_at = place; cfa_offset = Some n })
row_behind place Other = None
