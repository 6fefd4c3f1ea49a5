use Rattle.dw_section.proofs.Words.{◌≡◌, ◌*◌, ◌≤◌, ℕ, List, AllZip, Starts, take, total, map, range_in}
use Rattle.dw_section.proofs.table.Table.row_starts.Given as goal

abbrev pub invariant-loop-fde : goal.invariant-loop-fde
invariant-loop-fde l = (l.sum ≤ l.fde-index * 2147483648) × ((counts : List ℕ) × AllZip (Starts l.self.target l.self.bytes) (map range_in (take l.fde-index l.index)) counts × (l.sum ≡ total counts))
