use Rattle.dw_section.proofs.{Words.{inl, refuses_by, ◌≡◌, ◌+◌, ◌∙◌, List, length, sym, ap, subst, arith, Piece, Rises, cie_places}, Items.one_pieces, Stages.handed_on, Lent.HeaderLaws.pieces_rise}
use Rattle.dw_section.proofs.header.cies_of.Goals as goal

pub returns : goal.returns
returns c =
    let n = c.in_ok-places.ensures.found in
    record {
      found = (n.0, n.1, rw c.deref.ensures.value at (c.in_ok-initials.ensures.found n.0 n.1 (c.deref.ensures.value ∙ n.2.cies)));
      counts = λ ps cut.
          subst (λ (qs : List Piece). (c.len.result ≡ length (cie_places qs)) × (c.len.result + c.in_ok-places.places.fdes ≡ length qs)) (one_pieces c.args.target c.args.bytes.now n.0 ps n.1 cut)
          (omega (arith, c.len.ensures, ap length n.2.cies), omega (arith, c.len.ensures, n.2.all));
      ascending = subst (Rises 0) (sym n.2.cies) (pieces_rise c.args.target c.args.bytes.now n.0 n.1);
      first = tt;
    }

pub returns-in_err-places-clause-first : goal.returns-in_err-places-clause-first
returns-in_err-places-clause-first c = handed_on c.from_residual.result _ c.from_residual.ensures.1 (refuses_by c.in_err-places.field-0.0 _ _ (λ r h. inl h) c.in_err-places.ensures.first)
