use Rattle.dw_canon.proofs.Lent.Canonical.{normal_form_exists, normal_form_is_one, same_normal_form, meaning_is_kept, normal_again}
use Rattle.dw_canon.proofs.laws.headline.Goals as goal

pub returns : goal.returns
returns c = record { exists = normal_form_exists; one = normal_form_is_one; equal = same_normal_form; kept = meaning_is_kept; again = normal_again }
