use Rattle.dw_normal.specs.Inner.{Puts.IsKept, Writing.table_of}
use Rattle.dw_normal.proofs.Words.{◌≡◌, List, take, Member, AreMembers, Walks, fdes_bytes}
use Rattle.dw_normal.proofs.likeness.same_over.Given as goal

abbrev pub invariant-fdes : goal.invariant-fdes
invariant-fdes l = record {
  same : (ms ns : List Member) → AreMembers (table_of l.initial.one).target (table_of l.initial.one).bytes ms → AreMembers (table_of l.initial.two).target (table_of l.initial.two).bytes ns
      → fdes_bytes (table_of l.initial.one).target ms (take l.place ms) ≡ fdes_bytes (table_of l.initial.two).target ns (take l.place ns);
  walks : Walks l.one × Walks l.two;
  ready : (l.one.ready ≡ l.initial.one.ready) × (l.two.ready ≡ l.initial.two.ready);
  kept : IsKept l.mine × IsKept l.other;
  rooms : (l.mine.room ≡ l.initial.mine.room) × (l.other.room ≡ l.initial.other.room);
}
