use Rattle.dw_library.proofs.Words.{List, map, [], refl, rules, sym, ap, ◌∙◌, inl, inr, length, length-map, AreFdes, Fde, Rules, rule_of}
use Rattle.dw_library.proofs.rows.put_look.Goals as goal

pub returns-in_default-clause-look : goal.returns-in_default-clause-look
returns-in_default-clause-look c = (record { row = c.default.result; rules = [] }, inr (λ fs are. rw c.in_default.is at (c.in_ok-found.ensures.found fs are), search rules, refl), refl, refl, refl)

pub returns-clause-look : goal.returns-clause-look
returns-clause-look c =
    let row = c.look_up.new.room in
    let fs = c.accepted.ensures.fdes in
    let there = λ (gs : List Fde) (are : AreFdes c.args.table.now.target c.args.table.now.bytes gs). rw c.in-Some.is at (c.in_ok-found.ensures.found gs are) in
    let here = there fs.0 fs.1 in (
      record { row = c.told_row.result; rules = map rule_of row.registers },
      inl (record { fde = c.in-Some.found; row = row }, here.2, λ gs are. (there gs are).0, here.1, rw c.row.ensures at c.told_row.ensures.told, refl),
      refl,
      rw c.row.ensures at c.told_row.ensures.rules,
      c.told_row.ensures.told.count ∙ ap (λ (r : Rules). length r.registers) c.row.ensures ∙ sym (length-map row.registers rule_of),
    )
