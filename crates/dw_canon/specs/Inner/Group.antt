-- What the FDEs of one return address register share, in one pass over all their rows.
use Rattle.std.specs.Prelude.{List, [], ◌∷◌}
use Rattle.dw_row.specs.{Rows.{Rules, blank}, Inner.Agreement.agreed}
use Rattle.dw_section.specs.Changes.{kept_by}
use Rattle.dw_canon.specs.Members.{Member}

-- each row of an FDE behind its first drops the registers that it leaves Unspecified, also where other FDEs come
abbrev pub shared_by : Rules → List Member → Rules
shared_by shared [] = shared
shared_by shared (m ∷ ms) = shared_by (kept_by (agreed shared m.first) m.later) ms

-- the initial row of a group
abbrev pub initial_row : List Member → Rules
initial_row [] = blank
initial_row (m ∷ ms) = shared_by (kept_by m.first m.later) ms
