-- The first fault in the way of a cut.
use Rattle.std.specs.Prelude.{◌≡◌, ℕ, ◌<◌, ◌≤◌, ◌==◌, ◌&&◌, ◌⊎◌, Bool, true, false, List, ◌++◌, length, take, Ok, Err, nat_lt, if◌then◌else◌}
use Rattle.std.specs.List.{AllByRecursion}
use Rattle.dw_num.specs.{Front.{Read, fault, unit_length_at, ◌>>=◌}, Input.{Input, behind}}
use Rattle.dw_num.specs.declared.refusal.{Code.TheVariants.{Truncated, EntryPastEnd, SectionTooLarge}, Refusal.Refusal}
use Rattle.dw_num.specs.declared.target.{Form.Form, Form.TheVariants.{Dwarf32, Dwarf64}, Target.Target, UnitLength.UnitLength}
use Rattle.dw_section.specs.Cut.{Item, gap, entry, IsItem, id_width, all_bytes}

abbrev pub is_32 : Form → Bool
is_32 Dwarf32 = true
is_32 Dwarf64 = false

-- what stands behind a length that was read at a place
abbrev pub body_at : ℕ → UnitLength → Input → Read Item
body_at at u i =
    if u.length == 0 && is_32 u.form then Ok (gap, i)
    else if nat_lt (length i.bytes) u.length then fault EntryPastEnd at
    else if nat_lt u.length (id_width u.form) then fault Truncated i.at
    else Ok (entry u.form (take u.length i.bytes), behind u.length i)

-- the item at the front, or what is wrong there
unfoldable pub item_at : Input → Read Item
item_at i = unit_length_at i >>= λ u. body_at i.at u.0 u.1

-- items, and behind them something that is no item
pub record IsStuck (target : Target) (s : List ℕ) (r : Refusal) : Type 0 where
  pub items : List Item
  pub rest : List ℕ
  pub each : AllByRecursion IsItem items
  pub whole : s ≡ all_bytes target.order items ++ rest
  pub some : 0 < length rest
  pub stuck : item_at (record { at = length (all_bytes target.order items); bytes = rest; target = target }) ≡ Err r

-- the first fault in the way of a cut
abbrev pub CutFault : Target → List ℕ → Refusal → Type 0
CutFault target s r = ((2147483647 < length s) × (r ≡ record { code = SectionTooLarge; at = 0 })) ⊎ ((length s ≤ 2147483647) × IsStuck target s r)
