use Rattle.dw_normal.proofs.Words.{length, take, ◌+◌, ◌-◌, ◌≡◌, ◌≤◌, Appends}
use Rattle.dw_normal.proofs.output.put_bytes.Given as goal

abbrev pub invariant-bytes : goal.invariant-bytes
invariant-bytes g l =
    (l.done ≤ length l.bytes) × (l.room + l.done ≡ l.initial.room) × (g.S.Sink.failures l.sink ≡ g.S.Sink.failures l.initial.sink)
    × Appends (g.S.Sink.taken l.initial.sink) (g.S.Sink.taken l.sink) (take l.done l.bytes)

abbrev pub decreases-bytes : goal.decreases-bytes
decreases-bytes g l = length l.bytes - l.done
