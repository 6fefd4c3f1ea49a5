use Rattle.dw_row.specs.declared.kept_row.KeptRow.{KeptRow}
use Rattle.dw_row.proofs.{Words.{BeganWith, false, refl, on_ok_weaker, subst, sym}, StatesLaws.{begun_so, first_is, rewound}}
use Rattle.dw_row.proofs.states.States.rewind.Goals as goal

pub first_again-taken-requires-clause-began : goal.first_again-taken-requires-clause-began
first_again-taken-requires-clause-began c = subst (BeganWith c.args.initial.now) (sym (first_is c.self.view_is c.self.invariant.1)) c.requires

pub invariant_of-self : goal.invariant_of-self
invariant_of-self c =
    let tracked = c.self.inside.tracked in
    (c.first_again-taken.ensures.so, begun_so tracked tracked (λ off. off) _ c.first_again-taken.new.row.registers c.clear.new.self.items c.forget.new.remembered.items c.clear.ensures c.forget.ensures refl)

pub returns-clause-rewound : goal.returns-clause-rewound
returns-clause-rewound c =
    let s = c.self.inside in let saved : KeptRow = record { row = s.saved.row; changed = s.saved.changed; watched = false } in let new = c.first_again-taken.new in
    on_ok_weaker c.first_again-taken.result (λ same. rewound s.tracked saved c.args.initial.now new.row new.kept.row c.clear.new.self.items c.forget.new.remembered.items same c.clear.ensures c.forget.ensures refl) c.first_again-taken.ensures.row
