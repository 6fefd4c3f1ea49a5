use Rattle.dw_normal.proofs.{Words.sink_at, Reports.{Ended, all_written, ended, never_full, none_written, some_held, some_written}, FaultPlaces.unwritten_within, normal.normalise_to.{Given.Over, Goals.After-saturating_sub-written}}
use Rattle.dw_normal.proofs.normal.normalise_to.Goals as goal

done : (g : Over) (c : After-saturating_sub-written g)
    → Ended c.args.target c.args.cap c.args.bytes.now c.write_entries-end.result (sink_at g.S.Sink.failures g.S.Sink.taken c.new-out.result.room c.args.sink.now)
    (sink_at g.S.Sink.failures g.S.Sink.taken c.write_entries-end.new.out.room c.write_entries-end.new.sink)
done g c =
    let put = rw c.new-out.ensures.counts at c.write_entries-end.ensures in
    ended c.args.target c.args.cap c.args.bytes.now (c.in-Ok.ensures).found.1.short c.in-Ok.ready.table (c.in-Ok.ensures).found.0 c.write_entries-end.result _ _ c.new-out.ensures.room put

pub returns-in_default-clause-writes : goal.returns-in_default-clause-writes
returns-in_default-clause-writes g c = rw c.saturating_sub-written.ensures (all_written (done g (goal.at.returns-in_default-clause-writes g c).After-saturating_sub-written) c.in_default.is)

pub unreachable-requires : goal.unreachable-requires
unreachable-requires g c = never_full (done g (goal.at.unreachable-requires g c).After-saturating_sub-written) c.in-Err-end.is c.in-Full.is

pub returns-in-Failed-clause-writes : goal.returns-in-Failed-clause-writes
returns-in-Failed-clause-writes g c =
    rw c.saturating_sub-written.ensures (some_written (done g (goal.at.returns-in-Failed-clause-writes g c).After-saturating_sub-written) c.in-Err-end.is c.in-Failed.is)

pub returns-clause-writes : goal.returns-clause-writes
returns-clause-writes g c = rw c.saturating_sub-written.ensures (some_held (done g (goal.at.returns-clause-writes g c).After-saturating_sub-written) c.in-Err-end.is c.in-Memory.is)

pub returns-in-Err-clause-writes : goal.returns-in-Err-clause-writes
returns-in-Err-clause-writes g c =
    none_written c.args.target c.args.cap c.args.bytes.now c.in-Err.error c.unwritten.result (g.S.Sink.failures c.args.sink.now) (g.S.Sink.taken c.args.sink.now) c.in-Err.ensures.first c.unwritten.ensures

pub returns-in-Err-clause-within : goal.returns-in-Err-clause-within
returns-in-Err-clause-within g c =
    unwritten_within c.cited_laws.ensures.within c.args.target c.args.bytes.now c.are_bytes.ensures c.args.cap c.in-Err.error c.unwritten.result c.in-Err.ensures.first c.unwritten.ensures
