use Rattle.dw_normal.proofs.Words.{◌≡◌, ◌++◌, ℕ, List, rules, fixed_bytes, Order}
use Rattle.dw_normal.proofs.contents.begin_fde_entry.Goals as goal

-- the place that is written first, as an equation that is at hand
place_at : (order : Order) (cie_at : ℕ) (new rest : List ℕ) → new ≡ fixed_bytes order 4 cie_at ++ rest → new ≡ fixed_bytes order 4 cie_at ++ rest
place_at order cie_at new rest is = is

pub returns-in-Four : goal.returns-in-Four
returns-in-Four c = let place = place_at c.args.target.order c.args.cie_at _ _ c.write_number.ensures in search rules

pub returns-in-Eight : goal.returns-in-Eight
returns-in-Eight c = let place = place_at c.args.target.order c.args.cie_at _ _ c.write_number.ensures in search rules
