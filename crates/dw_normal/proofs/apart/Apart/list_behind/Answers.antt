use Rattle.dw_normal.specs.declared.apart.Apart.{Apart}
use Rattle.dw_normal.proofs.{Words.{◌≡◌, ap, sym, subst, ◌∙◌, Registers, SameBeside, Known, AreLess}, Apartness.beside_both, KnownCies.puts_notes}
use Rattle.dw_normal.proofs.apart.Apart.list_behind.Goals.{After-note, in-Some+in_ok-add_all-in-Some+in_ok-list_differences-in-Some, in-None+in_ok-list_differences-in-None}
use Rattle.dw_normal.proofs.apart.Apart.list_behind.Goals as goal

-- behind both arms the registers are listed, and what is known is what was left of it
joined : (c : After-note) → (c.match-take.self.known ≡ c.take.new.self) × SameBeside c.match-take.self.registers c.args.shared.now c.args.first.now
joined c = elim c.match-take.branch [
  | in-Some+in_ok-add_all-in-Some+in_ok-list_differences-in-Some w ↦ listed w.list_differences.new.registers w.self-is w.in_ok-list_differences-in-Some.ensures
  | in-None+in_ok-list_differences-in-None w ↦ listed w.list_differences-in-None.new.registers w.self-is w.in_ok-list_differences-in-None.ensures
]
  where
    listed : (registers : Registers) → c.match-take.self ≡ record { listed = c.args.self.now.listed; registers = registers; known = c.take.new.self } → SameBeside registers c.args.shared.now c.args.first.now
        → (c.match-take.self.known ≡ c.take.new.self) × SameBeside c.match-take.self.registers c.args.shared.now c.args.first.now
    listed registers is beside = (ap (λ (a : Apart). a.known) is, subst (λ (a : Apart). SameBeside a.registers c.args.shared.now c.args.first.now) (sym is) beside)

pub returns-clause-known : goal.returns-clause-known
returns-clause-known c =
    let old = c.args.self.now.known in
    let both = joined (goal.at.returns-clause-known c).After-note in
    let changed = ap (λ (k : Known). k.changed) both.0 ∙ c.take.ensures.changed in
    puts_notes _ c.args.cie_at c.args.register c.add_all-2.new.self old.cies c.match-take.self.known.cies c.note.new.self.cies (subst (λ (k : Known). AreLess old.cies k.cies) (sym both.0) c.take.ensures.less) c.note.ensures
    (λ row own.
    beside_both c.match-take.self.known.changed c.match-take.self.registers c.add_all-2.new.self c.args.shared.now row c.args.first.now c.in_ok-add_all.ensures.added (subst (λ (set : Registers). SameBeside set row c.args.first.now) (sym changed) own) both.1)

pub returns-clause-lists : goal.returns-clause-lists
returns-clause-lists c = (joined (goal.at.returns-clause-lists c).After-note).1
