use Rattle.dw_normal.proofs.{Words.{◌≡◌, AreSpecified, sym, ap, ◌∙◌, subst, OnOk, Rules, agreed, agreed_of, kept_by, row_or_blank, shown_row, kept, AgreesBeside}, Filled.on_ok, KnownCies.{agreed_kept, notes_more, shared_beside, still_kept}}
use Rattle.dw_normal.proofs.groups.share_with.Goals as goal

pub returns-in_default-behind-clause-row : goal.returns-in_default-behind-clause-row
returns-in_default-behind-clause-row c = λ first shown.
    let both = sym c.in-Some.ensures ∙ shown in
    let one : c.in-Some.first.now ≡ first = cc in
    let is : c.agree.new.self ≡ agreed c.args.shared.now first = agreed_of c.args.shared.now c.in-Some.first.now c.agree.new.self c.ascends.ensures c.agree.ensures ∙ ap (agreed c.args.shared.now) one in
    subst (λ (row : Rules). OnOk c.narrow.result (c.narrow.new.row ≡ kept_by row c.args.changes.now.to_come)) is c.narrow.ensures.row

pub returns-then-behind-clause-row : goal.returns-then-behind-clause-row
returns-then-behind-clause-row c = λ first shown.
    let both = sym c.in-Some.ensures ∙ shown in
    let one : c.in-Some.first.now ≡ first = cc in
    let s = c.args.shared.now in
    let later = c.args.changes.now.to_come in
    let is : shown_row c.args.changes.now ≡ first = ap row_or_blank shown in
    let keeps : kept_by first later ≡ first = subst (λ (x : Rules). kept_by x later ≡ x) is ((rw c.in-Some-behind.is at c.requires.stands).keeps c.if-behind.true) in
    let up = subst (λ (x : Rules). AreSpecified 0 x.registers) one c.ascends-2.ensures in
    c.in_ok-agree.ensures.row ∙ ap (agreed s) one ∙ sym (still_kept s first later c.ascends.ensures up keeps)

pub returns-clause-row : goal.returns-clause-row
returns-clause-row c = λ first shown.
    let both = sym c.in-Some.ensures ∙ shown in
    let one : c.in-Some.first.now ≡ first = cc in
    subst (λ (row : Rules). OnOk c.narrow_further.result (c.narrow_further.new.row ≡ kept_by row c.args.changes.now.to_come)) (c.in_ok-agree.ensures.row ∙ ap (agreed c.args.shared.now) one) c.narrow_further.ensures.row

pub narrow_further-requires : goal.narrow_further-requires
narrow_further-requires c =
    let first = c.in-Some.first.now in
    (first, c.in-Some.ensures, subst (λ (x : Rules). kept x first ≡ x) (sym c.in_ok-agree.ensures.row) (agreed_kept c.args.shared.now first c.ascends.ensures))

pub returns-then-behind-clause-known : goal.returns-then-behind-clause-known
returns-then-behind-clause-known c = rw (c.in-Some-behind.is, ap row_or_blank c.in-Some.ensures) c.in_ok-agree.ensures.known

pub returns-clause-known : goal.returns-clause-known
returns-clause-known c =
    let s = c.args.shared.now in
    let first = c.in-Some.first.now in
    let before = rw (← ap row_or_blank c.in-Some.ensures) at c.in_ok-agree.ensures.known in
    rw c.in-Some-behind.is
    (on_ok c.narrow_further.result _ _
    (λ e. notes_more _ _ (λ set h row same. subst (λ (x : Rules). AgreesBeside set x row) (sym e) (shared_beside set s first row c.agree-2.new.shared c.args.changes.now.to_come c.ascends.ensures c.in_ok-agree.ensures.row (h row same)))
    c.in-Some-behind.behind.cie_at c.args.register c.args.known.now.cies c.agree-2.new.self.cies before)
    c.narrow_further.ensures.row)
