use Rattle.std.specs.Int.Signed.{mag_shr, shr_z}
use Rattle.dw_eval.proofs.{Words.{◌≡◌, ◌∙◌, ◌^◌, ap, arith, w64, to_z-of_z, FitsSigned, address_limit, shifted_signed}, Signed.shifted_all}
use Rattle.dw_op.specs.Operands.{modulo}
use Rattle.dw_eval.proofs.arithmetic.shifted_signed.Goals as goal

pub returns : goal.returns
returns c =
    let r = c.signed.result in
    let shifted = shr_z r (2 ^ c.min.result) in
    let fits : FitsSigned w64 shifted = record { sfits = omega (arith, mag_shr r (2 ^ c.min.result), c.signed.type_inv) } in
    let is : shifted ≡ shifted_signed c.args.size c.args.s c.args.t = rw (c.signed.ensures, c.min.ensures) (shifted_all c.args.size c.args.s c.args.t) in
    rw (to_z-of_z w64 r (record { sfits = c.signed.type_inv }), to_z-of_z w64 shifted fits) at c.unsigned.ensures ∙ ap (modulo (address_limit c.args.size)) is
