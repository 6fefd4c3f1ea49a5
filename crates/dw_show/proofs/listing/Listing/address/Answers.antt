use Rattle.dw_show.proofs.{Words.{List, ℕ, subst, Fills}, Digits.is_last, Puts.in_room}
use Rattle.dw_show.proofs.listing.Listing.address.Goals as goal

pub returns-in-Err-clause-fills : goal.returns-in-Err-clause-fills
returns-in-Err-clause-fills g c = λ most. subst (λ (l : List ℕ). Fills c.args.self.now c.text.new.self l) (is_last c.args.address most c.in-Err.ensures) c.text.ensures.fills

pub returns-in-Err-clause-adds : goal.returns-in-Err-clause-adds
returns-in-Err-clause-adds g c = λ most. in_room g.W.Write.contents _ _ _ (subst (λ (l : List ℕ). Fills c.args.self.now c.text.new.self l) (is_last c.args.address most c.in-Err.ensures) c.text.ensures.fills)
