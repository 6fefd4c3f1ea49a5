use Rattle.dw_section.proofs.{Words.{◌≡◌, ℕ, List, [], ◌∷◌, true, arith, refl, inr, is_among, piece_in, program_of, IsFde}, Lent.FieldTable.fde_numbers, Lent.HeaderLaws.{reads_fields, fields_end}, Stages.handed_on, StandLaws.{among_first, rest_read, rest_stuck}, header.read_behind.Goals.In_ok-fields}
use Rattle.dw_section.proofs.header.read_behind.Goals as goal

is : (c : In_ok-fields) (places : List ℕ) → is_among c.args.cie_at places ≡ true → IsFde c.args.target places (piece_in c.args.piece.now) c.in_ok-fields.fields (program_of c.read_range.new.cursor)
is c places among = (
  c.requires.kind,
  reads_fields _ (fde_numbers c.args.target.size places c.args.piece.now.form) c.args.target (piece_in c.args.piece.now) c.in_ok-fields.fields c.read_range.new.cursor c.are_bytes.ensures
      (rest_read c.args.target places (piece_in c.args.piece.now) c.args.cie_at c.args.cursor.now _ c.requires.pointer among c.in_ok-fields.ensures.exact),
)

pub rest_of-requires : goal.rest_of-requires
rest_of-requires c =
    let all = is (goal.at.rest_of-requires c).In_ok-fields (c.args.cie_at ∷ []) (among_first c.args.cie_at []) in
    omega (arith, fields_end c.args.target (piece_in c.args.piece.now) _ c.in_ok-fields.fields (program_of c.read_range.new.cursor) all.1, c.args.piece.now.contents.in_section)

pub returns-in_err-fields-clause-stuck : goal.returns-in_err-fields-clause-stuck
returns-in_err-fields-clause-stuck c = λ places among.
    handed_on c.from_residual.result _ c.from_residual.ensures.1 (rest_stuck c.args.target places (piece_in c.args.piece.now) c.args.cie_at c.args.cursor.now _ c.requires.pointer among c.in_err-fields.ensures.exact)

pub returns-clause-found : goal.returns-clause-found
returns-clause-found c = λ places among. inr (c.in_ok-fields.fields, program_of c.read_range.new.cursor, is (goal.at.returns-clause-found c).In_ok-fields places among, rw c.rest_of.ensures refl)
