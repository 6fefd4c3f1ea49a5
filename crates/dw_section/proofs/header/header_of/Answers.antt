use Rattle.std.proofs.lemmas.Int.{to_z-of_z}
use Rattle.dw_section.proofs.{Words.{FitsSigned, rules, w64, piece_in}, Lent.HeaderLaws.{fields_apart, cie_faulty}}
use Rattle.dw_section.proofs.header.header_of.Goals as goal

pub returns-in_err-cie-clause-stuck : goal.returns-in_err-cie-clause-stuck
returns-in_err-cie-clause-stuck c =
    let holds = c.requires.holds (rw c.in_default.is at c.in_ok-fde.ensures.found) in
    absurd (fields_apart _ c.args.target (piece_in c.args.piece.now) holds.0 holds.1 _ holds.2.1 (cie_faulty c.args.target (piece_in c.args.piece.now) _ c.in_err-cie.ensures.exact))

pub returns-in_default-clause-found : goal.returns-in_default-clause-found
returns-in_default-clause-found c = let fits : FitsSigned w64 c.in_ok-cie.cie.factors.data_factor = search rules in rw (to_z-of_z w64 c.in_ok-cie.cie.factors.data_factor fits) (c.in_ok-cie.ensures.found c.args.places.now)
