use Rattle.dw_library.proofs.{Words.{◌≡◌}, Written.Wrote}
use Rattle.dw_library.proofs.rows.put_looks.Given as goal

abbrev pub invariant-addresses : goal.invariant-addresses
invariant-addresses l = record {
  wrote : Wrote l.table.target l.table.bytes l.addresses l.initial.rows l.initial.rules l.place l.rows l.rules l.total;
  done : l.done ≡ l.place;
}
