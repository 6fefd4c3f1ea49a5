use Rattle.dw_normal.specs.Inner.Known.{Puts}
use Rattle.dw_normal.proofs.{Words.{sym, ◌∙◌, subst, Rules, agreed_of, Registers, AgreesBeside, SameBeside}, KnownCies.{agreed_beside, puts_notes}, known.Known.agree.Goals.{in-Some+in_ok-add_all-in-Some+in_ok-agree_among-in-Some, in-None}}
use Rattle.dw_normal.proofs.known.Known.agree.Goals as goal

pub returns-clause-row : goal.returns-clause-row
returns-clause-row c =
    let one = agreed_of c.args.shared.now c.args.first.now in
    elim c.match-take.branch [
      | in-Some+in_ok-add_all-in-Some+in_ok-agree_among-in-Some w ↦ w.shared-is ∙ one w.agree_among.new.self c.ascends.ensures w.in_ok-agree_among-in-Some.ensures
      | in-None w ↦ w.shared-is ∙ one w.agree.new.self c.ascends.ensures w.agree.ensures
    ]

pub returns-clause-known : goal.returns-clause-known
returns-clause-known c =
    let old = c.args.shared.now in
    let first = c.args.first.now in
    let set = c.args.self.now.changed in
    let is = returns-clause-row c in
    let holds : (row : Rules) → SameBeside set row first → AgreesBeside set c.match-take.shared row = λ row same. subst (λ (s : Rules). AgreesBeside set s row) (sym is) (agreed_beside set old first row c.ascends.ensures same) in
    let put = subst (λ (x : Registers). Puts c.args.cie_at (record { register = c.args.register; set = x }) c.take.new.self.cies c.note.new.self.cies) c.take.ensures.changed c.note.ensures in
    puts_notes (λ (x : Registers). (row : Rules) → SameBeside set row first → AgreesBeside x c.match-take.shared row) c.args.cie_at c.args.register set c.args.self.now.cies c.take.new.self.cies c.note.new.self.cies c.take.ensures.less
    put holds
