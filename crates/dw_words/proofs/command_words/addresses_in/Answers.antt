use Rattle.std.proofs.lemmas.Grind.{common_steps}
use Rattle.dw_words.proofs.{Words.{◌≡◌, ◌∙◌, Some, ap, arith, err_from_is_err_and, inr, map, refl, sym, Text, Bor, address, all_read}, AllRead.{read_more, read_none}}
use Rattle.dw_words.proofs.command_words.addresses_in.Goals as goal

pub loop-text-preserved : goal.loop-text-preserved
loop-text-preserved c =
    let size = c.args.size in
    let says = ap (address size) (sym c.as_bytes.ensures.value) ∙ sym c.address.ensures ∙ c.in_ok-value.ensures in
    rw c.in-Ok.ensures.items (read_more (address size) (λ (s : Bor Text). s.now) c.in-Some.texts.now c.loop-text.text-index _ c.loop-text.addresses.items c.in_ok-value.value c.loop-text-test.true c.loop-text.invariant says)

pub returns-in_err-value : goal.returns-in_err-value
returns-in_err-value c =
    let size = c.args.size in
    let p = err_from_is_err_and c.from_residual.result c.from_residual.ensures.1 in
    let says = ap (address size) (sym c.as_bytes.ensures.value) ∙ sym c.address.ensures ∙ c.in_err-value.ensures.0 in
    let none = read_none (address size) (λ (s : Bor Text). s.now) c.in-Some.texts.now c.loop-text.text-index _ c.loop-text-test.true says in
    rw (p.1, p.2, c.in_err-value.ensures.1, sym c.in-Some.ensures) (none, λ known. inr (inr (inr (inr (inr (inr (inr (refl, (size, known.0, none)))))))))

pub returns : goal.returns
returns c =
    let read : all_read (address c.args.size) (map (λ (s : Bor Text). s.now) c.in-Some.texts.now) ≡ Some c.loop-text.addresses.items = grind (arith, common_steps) in
    rw (sym c.in-Some.ensures) read
