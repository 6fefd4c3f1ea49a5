use Rattle.dw_section.proofs.{Words.{◌≡◌, entry_of, length, map}, Items.Keeps}
use Rattle.dw_section.proofs.entry.all_entries.Given as goal

abbrev pub invariant-items : goal.invariant-items
invariant-items l = Keeps (λ ps. l.found.items ≡ map entry_of ps) l.fn.target l.bytes l.cursor

abbrev pub decreases-items : goal.decreases-items
decreases-items l = length l.cursor.bytes
