use Rattle.std.proofs.lemmas.Int.{to_z-of_z}
use Rattle.dw_section.proofs.Words.{◌-◌, arith, drop, refl, inl, le-ltb, length, length-drop, take_all, w64, err_from_is_err_and, cie_at, fixed_at, id_width, piece_in, program_of, IsCie}
use Rattle.dw_section.proofs.{Lent.{FieldTable.{cie_numbers, cie_said}, HeaderLaws.{reads_fields, fields_end}}, header.read_initial.Goals.In_ok-fields}
use Rattle.dw_section.proofs.header.read_initial.Goals as goal

is : (c : In_ok-fields) → IsCie c.args.target (piece_in c.args.piece.now) c.in_ok-fields.fields (program_of c.read_cie.new.cursor)
unfolding fixed_at
is c =
    let bytes = c.args.piece.now.contents.bytes.now in
    let width = id_width c.args.piece.now.form in
    let rest = take_all (length bytes - width) (drop width bytes) (omega (arith, length-drop width bytes)) in
    let read = rw (c.new-cursor.ensures, c.width_of-width.ensures, rest) at c.in_ok-fields.ensures in
    let numbers = cie_numbers c.args.target.size c.args.piece.now.form in
    (c.requires.kind, reads_fields _ numbers c.args.target (piece_in c.args.piece.now) c.in_ok-fields.fields c.read_cie.new.cursor c.are_bytes.ensures (rw (le-ltb (length bytes) width c.requires.id) read))

pub rest_of-requires : goal.rest_of-requires
rest_of-requires c = omega (arith, fields_end c.args.target (piece_in c.args.piece.now) _ c.in_ok-fields.fields (program_of c.read_cie.new.cursor) (is (goal.at.rest_of-requires c).In_ok-fields).1, c.args.piece.now.contents.in_section)

pub returns-clause-found : goal.returns-clause-found
returns-clause-found c = λ places.
    let said = is (goal.at.returns-clause-found c).In_ok-fields in
    inl (c.in_ok-fields.fields, program_of c.read_cie.new.cursor, said, rw (to_z-of_z w64 c.in_ok-fields.fields.data_factor (cie_said c.args.target c.args.target.size c.args.piece.now.form c.in_ok-fields.fields said.1.spelling said.1.spells).0, c.rest_of.ensures) refl)

pub returns-in_err-fields-clause-exact : goal.returns-in_err-fields-clause-exact
unfolding fixed_at cie_at
returns-in_err-fields-clause-exact c =
    let bytes = c.args.piece.now.contents.bytes.now in
    let width = id_width c.args.piece.now.form in
    let rest = take_all (length bytes - width) (drop width bytes) (omega (arith, length-drop width bytes)) in
    let read = rw (c.new-cursor.ensures, c.width_of-width.ensures, rest) at c.in_err-fields.ensures in
    let e = err_from_is_err_and c.from_residual.result c.from_residual.ensures.1 in
    rw (e.1, e.2, le-ltb (length bytes) width c.requires.id, read) refl
