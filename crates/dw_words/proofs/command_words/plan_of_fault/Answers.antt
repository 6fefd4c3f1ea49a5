use Rattle.clap.specs.declared.error.ErrorKind.{ErrorKind}
use Rattle.clap.specs.declared.error.ErrorKind.TheVariants as kinds
use Rattle.dw_words.proofs.Words.{◌≡◌, false, refl, is_help}
use Rattle.dw_words.proofs.command_words.plan_of_fault.Goals as goal

no_help : (k : ErrorKind) → (k ≡ kinds.DisplayHelp → ⊥) → (k ≡ kinds.DisplayVersion → ⊥) → is_help k ≡ false
no_help kinds.DisplayHelp help version = absurd (help refl)
no_help kinds.DisplayVersion help version = absurd (version refl)
no_help other help version = refl

pub returns : goal.returns
returns c = rw (← c.kind.ensures) (refl, no_help c.kind.result c.in_default.not-DisplayHelp c.in_default.not-DisplayVersion, c.in_default.not-OutOfMemory)
