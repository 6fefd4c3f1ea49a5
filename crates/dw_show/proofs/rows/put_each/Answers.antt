use Rattle.dw_show.proofs.{Words.{ℕ, List, [], ◌∷◌, ◌++◌, arith, subst, sym, Tells, TellsOf, Adds, at_text, lines}, Puts.{nothing, printed_of}, Lent.Endings.on, TextLines.{lines_push, zip_all, zip_more}}
use Rattle.dw_show.proofs.rows.put_each.Goals as goal

pub loop-address-init : goal.loop-address-init
loop-address-init g c = λ fs are. ([], tt, nothing g.W.Write.contents c.args.out.now)

pub loop-address-preserved : goal.loop-address-preserved
loop-address-preserved g c =
    let table = c.args.table.now in λ fs are.
    let before = c.loop-address.invariant fs are in
    let one = c.in_ok-put_at.ensures.put fs are in (
      before.0 ++ one.0 ∷ [],
      zip_more (TellsOf table.target table.bytes fs) c.args.addresses.now before.0 c.loop-address.address-index 0 one.0 c.loop-address-test.true before.1 one.1,
      subst (λ (t : List ℕ). Adds g.W.Write.contents c.args.out.now c.put_at.new.out t) (sym (lines_push at_text before.0 one.0)) (on g.W.Write.contents _ _ _ _ _ before.2 one.2),
    )

pub returns : goal.returns
returns g c =
    let table = c.args.table.now in
    let fdes = c.accepted.ensures.fdes in
    let all = c.loop-address.invariant fdes.0 fdes.1 in
    let each = zip_all (TellsOf table.target table.bytes fdes.0) c.args.addresses.now all.0 c.loop-address.address-index (omega (arith, c.loop-address-test.false)) all.1 in
    printed_of g.W.Write.contents _ _ _ (Tells table.target table.bytes c.args.addresses.now) (lines at_text) all.0 c.finish.result c.requires.works (fdes.0, fdes.1, each) all.2 c.finish.ensures.ends
