use Rattle.dw_normal.proofs.NopsLeft.{nops_behind}
use Rattle.dw_normal.proofs.output.Output.push_nops.Goals as goal

pub returns-clause-holds : goal.returns-clause-holds
returns-clause-holds c = λ front h. record {
  lost = h.lost;
  whole =
      nops_behind c.args.size h.lost c.args.self.now.bytes.items front c.extend_from_slice.new.self.items c.truncate.new.self.items c.args.self.now.gone c.in_ok-len.len c.filled_len.result h.whole h.gone c.in_ok-len.ensures.fits.0
      c.in_ok-extend_from_slice.ensures.items c.filled_len.ensures c.truncate.ensures.items;
  gone = h.gone;
  within = h.within;
  kept = h.kept;
}
