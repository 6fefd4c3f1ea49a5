use Rattle.dw_normal.proofs.Entries.{CiesPut}
use Rattle.dw_normal.proofs.entry.write_cies.Given as goal

abbrev pub invariant-rows : goal.invariant-rows
invariant-rows g l = CiesPut g.S.Sink.failures g.S.Sink.taken l.target l.fn.ready.rows.entries l.register-iterator l.places.entries l.initial.out l.out l.initial.sink l.sink
