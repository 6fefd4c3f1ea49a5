use Rattle.dw_num.specs.Laws.{IsRest, StaysIn, ReadsStay, OneUleb, OneSleb, ShortestUleb, ShortestSleb}
use Rattle.dw_num.proofs.{Words.{Ok, Err, refl, ◌∙◌, sym, arith, Input, Read}, Lent.Shortest.{appends_uleb, appends_sleb, puts_uleb, puts_sleb}}
use Rattle.dw_num.proofs.Lent.Stays.{Stays, take_stays, fixed_stays, address_stays, unit_length_stays, uleb_stays, sleb_stays, register_stays}
use Rattle.dw_num.proofs.laws.number_laws.Goals as goal

stays : {X : Type 0} (i : Input) (read : Read X) → Stays i read → StaysIn i read
stays i (Ok x) h = record { begins = h.0; ends = h.1 }
stays i (Err r) h = h

rest : (i j k : Input) → IsRest i j → IsRest j k → IsRest i k
rest i j k h w = let a = h.begins in let b = w.begins in record { begins = omega (arith, a, b); ends = w.ends ∙ h.ends }

reads_stay : ReadsStay
reads_stay = record {
  take = λ n i. stays i _ (take_stays n i);
  fixed = λ n i. stays i _ (fixed_stays n i);
  address = λ i. stays i _ (address_stays i);
  unit_length = λ i. stays i _ (unit_length_stays i);
  uleb = λ i. stays i _ (uleb_stays i);
  sleb = λ i. stays i _ (sleb_stays i);
  register = λ i. stays i _ (register_stays i);
  rest = rest;
}

one_uleb : OneUleb
one_uleb v old one other p q = puts_uleb v old one p ∙ sym (puts_uleb v old other q)

one_sleb : OneSleb
one_sleb v old one other p q = puts_sleb v old one p ∙ sym (puts_sleb v old other q)

shortest : ShortestUleb
shortest v old fits = appends_uleb v old _ fits refl

shortest_signed : ShortestSleb
shortest_signed v old fits = appends_sleb v old _ fits refl

pub returns : goal.returns
returns c = record { within = reads_stay; unsigned = one_uleb; signed = one_sleb; shortest = shortest; shortest_signed = shortest_signed }
