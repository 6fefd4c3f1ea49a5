use Rattle.dw_dump.proofs.{Words.{◌<◌, ◌+◌, length, arith, sym, ◌∙◌, ap, ◌++◌, take_rest, len_until}, LineParts.{word_within, lacks_front, until_parts}}
use Rattle.dw_dump.proofs.line.word_behind.Goals as goal

pub returns-then-len-text : goal.returns-then-len-text
returns-then-len-text c = λ word rest lacks is.
    let within = word_within 32 c.args.prefix.now c.in_ok-text.text.now word rest (sym c.in_ok-text.ensures ∙ is) lacks in
    omega (arith, c.if-len-text.true, c.len_until-len.ensures.value)

pub returns : goal.returns
returns c =
    let text = c.in_ok-text.text.now in
    let within : len_until 32 text < length text = omega (arith, c.if-len-text.false, c.len_until-len.ensures.value, c.len_until-len.ensures.within) in
    rw (take_rest text (c.len_until-len.result + 1), c.len_until-len.ensures.value) (lacks_front 32 text, c.in_ok-text.ensures ∙ ap (λ t. c.args.prefix.now ++ t) (until_parts 32 text within))
