use Rattle.std.proofs.Common.{ℤ}
use Rattle.dw_normal.proofs.Words.{◌≡◌, false, refl, RegRule, same_rule}
use Rattle.dw_row.specs.declared.rule.RegRule.TheVariants.{Offset}
use Rattle.dw_normal.proofs.program.is_saved_at.Goals as goal

not_saved : (o : ℤ) (r : RegRule) → ((n : ℤ) → r ≡ Offset n → ⊥) → false ≡ same_rule (Offset o) r
not_saved o (Offset n) none = absurd (none n refl)
not_saved o other none = refl

pub returns-in-None : goal.returns-in-None
returns-in-None c = not_saved c.args.offset _ c.in-None.ensures
