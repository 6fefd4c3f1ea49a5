use Rattle.dw_normal.specs.Inner.Writing.{table_of}
use Rattle.dw_normal.proofs.{Words.{◌≡◌, Walks, sink_at}, Entries.FdesPut}
use Rattle.dw_normal.proofs.entry.write_all.Given as goal

abbrev pub invariant-fdes : goal.invariant-fdes
invariant-fdes g l = record {
  fdes : FdesPut l.initial.out.counts (table_of l.initial.begun).target (table_of l.initial.begun).bytes l.place (sink_at g.S.Sink.failures g.S.Sink.taken l.initial.out.room l.initial.sink) (sink_at g.S.Sink.failures g.S.Sink.taken l.out.room l.sink);
  counts : l.out.counts ≡ l.initial.out.counts;
  walks : Walks l.begun;
  ready : l.begun.ready ≡ l.initial.begun.ready;
}
