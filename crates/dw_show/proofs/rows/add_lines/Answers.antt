use Rattle.dw_show.proofs.{Words.{◌∙◌, ◌+◌, ℕ, ap, drop, drop_min, length, refl, sym, take_rest}, AddressLines.{none_left, read_all, read_bad, read_more, read_none, some_left}}
use Rattle.dw_show.proofs.rows.add_lines.Goals as goal

pub loop-rest-init : goal.loop-rest-init
loop-rest-init c = read_none c.args.size c.args.text.now c.args.addresses.now.items

pub returns-in_default : goal.returns-in_default
returns-in_default c =
    let rest = c.loop-rest.rest.now in
    let n = c.line_len-len.result in
    let some = some_left (length rest) c.is_empty.result c.is_empty.ensures c.loop-rest-test.true in
    (refl, read_bad c.args.size c.args.text.now rest c.loop-rest.line n c.args.addresses.now.items c.loop-rest.addresses.items c.loop-rest.invariant c.line_len-len.ensures.value some (sym c.in_default.is ∙ c.address.ensures))

pub loop-rest-preserved : goal.loop-rest-preserved
loop-rest-preserved c =
    let rest = c.loop-rest.rest.now in
    let n = c.line_len-len.result in
    let some = some_left (length rest) c.is_empty.result c.is_empty.ensures c.loop-rest-test.true in
    read_more c.args.size c.args.text.now rest _ c.loop-rest.line n c.in-Some.address c.args.addresses.now.items c.loop-rest.addresses.items c.push.new.self.items c.loop-rest.invariant
    c.line_len-len.ensures.value c.line_len-len.ensures.within some (sym c.in-Some.is ∙ c.address.ensures) (take_rest rest c.min.result ∙ ap (λ (k : ℕ). drop k rest) c.min.ensures ∙ drop_min (n + 1) rest) c.in_ok-push.ensures.items

pub returns : goal.returns
returns c =
    let none = none_left (length c.loop-rest.rest.now) c.is_empty.result c.is_empty.ensures c.loop-rest-test.false in
    read_all c.args.size c.args.text.now c.loop-rest.rest.now c.loop-rest.line c.args.addresses.now.items c.loop-rest.addresses.items c.loop-rest.invariant none
