use Rattle.dw_section.proofs.{Words.{◌≡◌, sym, ap, ◌∙◌, kept, place_behind, is_specified}, Dropped.{all_dropped, one_dropped, one_stays}}
use Rattle.dw_section.proofs.change.drop_altered.Goals as goal

pub registers-preserved-then-not-is_specified : goal.registers-preserved-then-not-is_specified
registers-preserved-then-not-is_specified c =
    let narrowed = c.requires.narrowed in let row = c.in-Some.row.now in
    one_dropped c.args.shared.now narrowed.0 row c.ascends.ensures narrowed.2 (place_behind c.registers.last) c.registers.shared c.registers.invariant c.in-Some-next_difference.register c.drop_register.new.self
    (c.in-Some-next_difference.ensures.first narrowed.0 row narrowed.1 c.in-Some.ensures) (sym (c.if-not-is_specified.ensures ∙ ap is_specified c.rule.ensures)) c.drop_register.ensures

pub registers-preserved : goal.registers-preserved
registers-preserved c =
    let narrowed = c.requires.narrowed in let row = c.in-Some.row.now in
    one_stays c.args.shared.now narrowed.0 row c.ascends.ensures narrowed.2 (place_behind c.registers.last) c.registers.shared c.registers.invariant c.in-Some-next_difference.register
    (c.in-Some-next_difference.ensures.first narrowed.0 row narrowed.1 c.in-Some.ensures) (sym (c.if-not-is_specified.ensures ∙ ap is_specified c.rule.ensures))

pub returns : goal.returns
returns c = λ after shown.
    let narrowed = c.requires.narrowed in let row = c.in-Some.row.now in
    let both = sym c.in-Some.ensures ∙ shown in
    let one : row ≡ after = cc in
    all_dropped c.args.shared.now narrowed.0 row c.ascends.ensures narrowed.2 (place_behind c.registers.last) c.registers.shared c.registers.invariant
    (c.in_default-next_difference.ensures.first narrowed.0 row narrowed.1 c.in-Some.ensures) ∙ ap (kept c.args.shared.now) one
