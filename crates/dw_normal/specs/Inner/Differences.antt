-- How the registers are found to which two rows give different rules.
use Rattle.std.specs.{Prelude.{◌≡◌, ◌++◌, ℕ, List, Some}, List.AllByRecursion}
use Rattle.dw_num.specs.declared.target.Target.{Target}
use Rattle.dw_row.specs.{RegisterSets.SameBeside, Rows.Rules}
use Rattle.dw_canon.specs.Inner.{Difference.difference, Fits.InstrFits, Spelling.program_bytes}
use Rattle.dw_normal.specs.declared.apart.{Differences.Differences, Differences.TheVariants.{Rows, Among, Altered}}

-- it is so of these two rows
abbrev pub Tells : Differences → Rules → Rules → Type 0
Tells Rows before after = Unit {0}
Tells (Among set) before after = SameBeside set.now before after
Tells (Altered changes) before after = (changes.now.before ≡ Some before) × (changes.now.shown ≡ Some after)

-- what leads from one row to another can be spelled, where a third has the initial rules
pub record CanLead (t : Target) (shared before after : Rules) : Type 0 where
  pub fits : AllByRecursion (InstrFits t) (difference shared before after)

-- its bytes were appended
pub record Leads (t : Target) (shared before after : Rules) (old new : List ℕ) : Type 0 where
  pub put : new ≡ old ++ program_bytes t (difference shared before after)
