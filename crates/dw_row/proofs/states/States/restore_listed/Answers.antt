use Rattle.dw_row.specs.{Inner.States.{from_of}, declared.kept_row.KeptRow.{KeptRow}}
use Rattle.dw_row.proofs.{Words.{◌∙◌, ap, false, refl}, StatesLaws.{again_held, back_so, begun_so, behind_none, found_held, found_so, none_on_err, none_since, none_stacked, popped_fits}}
use Rattle.dw_row.proofs.states.States.restore_listed.Goals as goal

pub take_back-requires-clause-from : goal.take_back-requires-clause-from
take_back-requires-clause-from c = rw (c.from_of-from.ensures, c.as_ref.ensures.value) (popped_fits c.self.view_is c.self.invariant.1 c.pop-last.result c.pop-last.new.self.items c.pop-last.ensures.items)

pub invariant_of-self : goal.invariant_of-self
invariant_of-self c =
    let tracked = c.self.inside.tracked in
    (c.take_back.ensures.so, begun_so tracked tracked (λ off. off) _ c.take_back.new.row.registers c.clear.new.self.items c.forget.new.remembered.items c.clear.ensures c.forget.ensures refl)

pub returns-in-Err-clause-none : goal.returns-in-Err-clause-none
returns-in-Err-clause-none c =
    let own = c.self.inside.saved in let saved : KeptRow = record { row = own.row; changed = own.changed; watched = false } in
    none_stacked saved c.take_back.new.row.registers c.clear.new.self.items c.forget.new.remembered.items c.forget.ensures refl

pub invariant_of-self-in-Some : goal.invariant_of-self-in-Some
invariant_of-self-in-Some c =
    let new = c.take_back.new in
    rw c.set_cfa.ensures (
      c.take_back.ensures.so,
      found_so c.self.view_is c.self.invariant.1 new.row new.kept.row new.changes.items c.pop-last.new.self.items c.pop-last.result c.from_of-from.result c.pop-last.ensures.items (c.from_of-from.ensures ∙ ap from_of c.as_ref.ensures.value) c.in-Ok.ensures.ok
          c.in-Some.last c.in-Some.is c.is_listing-self-inside.result c.is_listing-self-inside.ensures,
    )

pub returns-in-Some-clause-restored : goal.returns-in-Some-clause-restored
returns-in-Some-clause-restored c =
    let new = c.take_back.new in
    found_held c.self.view_is c.self.invariant.1 new.row new.kept.row new.changes.items c.pop-last.new.self.items c.pop-last.result c.from_of-from.result c.pop-last.ensures.items (c.from_of-from.ensures ∙ ap from_of c.as_ref.ensures.value) c.in-Ok.ensures.ok
    c.in-Some.last c.in-Some.is c.set_cfa.new.self c.set_cfa.ensures

pub saved_again-requires-clause-saved : goal.saved_again-requires-clause-saved
saved_again-requires-clause-saved c =
    let new = c.take_back.new in
    none_since c.self.view_is c.self.invariant.1 new.row new.kept.row new.changes.items c.pop-last.new.self.items c.pop-last.result c.from_of-from.result c.pop-last.ensures.items (c.from_of-from.ensures ∙ ap from_of c.as_ref.ensures.value) c.in-Ok.ensures.ok
    c.in-None.is c.pop-last.ensures.variant

pub invariant_of-self-in-None : goal.invariant_of-self-in-None
invariant_of-self-in-None c =
    let new = c.take_back.new in (
      c.saved_again.ensures.so,
      back_so c.self.view_is c.self.invariant.1 new.row new.kept.row new.changes.items c.pop-last.new.self.items c.pop-last.result c.from_of-from.result c.pop-last.ensures.items (c.from_of-from.ensures ∙ ap from_of c.as_ref.ensures.value) c.in-Ok.ensures.ok
          c.in-None.is c.pop-last.ensures.variant c.saved_again.new.saved c.saved_again.new.row c.saved_again.ensures.watched,
    )

pub returns-in-None-clause-restored : goal.returns-in-None-clause-restored
returns-in-None-clause-restored c =
    let new = c.take_back.new in
    again_held c.self.view_is c.self.invariant.1 new.row c.saved_again.new.kept.row new.changes.items c.pop-last.new.self.items c.pop-last.result c.from_of-from.result c.pop-last.ensures.items (c.from_of-from.ensures ∙ ap from_of c.as_ref.ensures.value) c.in-Ok.ensures.ok
    c.in-None.is c.pop-last.ensures.variant c.saved_again.result c.saved_again.new.saved c.saved_again.new.row c.saved_again.ensures.watched c.saved_again.ensures.again

pub returns-in-None-clause-none : goal.returns-in-None-clause-none
returns-in-None-clause-none c =
    let new = c.take_back.new in
    none_on_err c.saved_again.result c.saved_again.new.saved c.saved_again.new.row.registers new.changes.items c.pop-last.new.self.items (behind_none c.self.view_is c.self.invariant.1 new.row new.kept.row new.changes.items c.pop-last.new.self.items c.pop-last.result c.from_of-from.result c.pop-last.ensures.items (c.from_of-from.ensures ∙ ap from_of c.as_ref.ensures.value) c.in-Ok.ensures.ok
    c.in-None.is c.pop-last.ensures.variant) c.saved_again.ensures.watched
