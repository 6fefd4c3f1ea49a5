use Rattle.dw_words.proofs.Words.{◌≡◌, Some, map, take, address, all_read}
use Rattle.dw_words.proofs.command_words.addresses_in.Given as goal

abbrev pub invariant-loop-text : goal.invariant-loop-text
invariant-loop-text l = all_read (address l.size) (map (λ s. s.now) (take l.text-index l.texts)) ≡ Some l.addresses.items
