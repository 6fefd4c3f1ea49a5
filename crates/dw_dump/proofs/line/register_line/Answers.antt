use Rattle.dw_dump.proofs.{Words.{◌∷◌, sym, ◌∙◌, subst, codes, append_cancel_left, Hexadecimal}, LineParts.{digits_lack_space, register_parts}}
use Rattle.dw_dump.proofs.line.register_line.Goals as goal

pub returns-in_err-name : goal.returns-in_err-name
returns-in_err-name c = rw c.from_residual.ensures (λ r v said. c.in_err-name.ensures said.0 (48 ∷ 120 ∷ said.1) (digits_lack_space 10 0 r said.0 said.2.number) said.4)

pub returns-in_err-digits : goal.returns-in_err-digits
returns-in_err-digits c = rw c.from_residual-in_err-digits.ensures (λ r v said.
    let parts = register_parts c.args.line.now c.in_ok-name.name.now c.in_ok-name.text.now c.in_ok-name.ensures.0 c.in_ok-name.ensures.1 r v said in
    c.in_err-digits.ensures parts.digits parts.behind)

pub returns-in_err-register_name : goal.returns-in_err-register_name
returns-in_err-register_name c = rw c.from_residual-in_err-register_name.ensures (λ r v said.
    let parts = register_parts c.args.line.now c.in_ok-name.name.now c.in_ok-name.text.now c.in_ok-name.ensures.0 c.in_ok-name.ensures.1 r v said in
    c.in_err-register_name.ensures r parts.is_name)

pub returns-in_err-hexadecimal : goal.returns-in_err-hexadecimal
returns-in_err-hexadecimal c = rw c.from_residual-in_err-hexadecimal.ensures (λ r v said.
    let parts = register_parts c.args.line.now c.in_ok-name.name.now c.in_ok-name.text.now c.in_ok-name.ensures.0 c.in_ok-name.ensures.1 r v said in
    c.in_err-hexadecimal.ensures v (subst (Hexadecimal v) (append_cancel_left (codes "0x") _ _ (sym parts.behind ∙ c.in_ok-digits.ensures)) parts.is_value))
