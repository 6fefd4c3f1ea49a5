use Rattle.dw_frame.proofs.{Words.{◌≡◌, ℕ, suc, ◌+◌, Ok, arith, sym, ap, subst, ◌∙◌, RegRule, context, RegisterIs, ListedBelow}, FrameLaws.{so_added, so_passed}}
use Rattle.dw_frame.proofs.machine.Machine.add_all_given.Goals as goal

pub given-preserved : goal.given-preserved
given-preserved c =
    let m = c.args.self.now in
    let row = m.row.now in
    let r = c.given.index in
    let unset = c.requires.unset r c.given.invariant.from c.given-test.true in
    let listed = sym (c.lists.ensures unset) ∙ c.if-not-lists.false in
    let next : suc r ≡ r + 1 = omega arith in
    record {
      from = omega (arith, c.given.invariant.from);
      so_far = λ byte so.
          let world = context m.env byte in
          let value = subst (λ (x : RegRule). RegisterIs world m.steps m.default c.args.cfa r x (Ok c.defaulted.result)) (sym unset) (ap Ok (c.defaulted.ensures byte)) in
          rw (c.in_ok-push.ensures, sym next) (so_added world m.steps m.default row m.return_register c.args.cfa r c.given.room c.defaulted.result (c.given.invariant.so_far byte so) listed value);
    }

pub given-preserved-then-not-lists : goal.given-preserved-then-not-lists
given-preserved-then-not-lists c =
    let m = c.args.self.now in
    let not = sym (c.lists.ensures (c.requires.unset c.given.index c.given.invariant.from c.given-test.true)) ∙ c.if-not-lists.true in
    let next : suc c.given.index ≡ c.given.index + 1 = omega arith in
    record {
      from = omega (arith, c.given.invariant.from);
      so_far = λ byte so. rw (sym next) (so_passed (context m.env byte) m.steps m.default m.row.now m.return_register c.args.cfa c.given.index c.given.room (c.given.invariant.so_far byte so) not);
    }

pub returns : goal.returns
returns c = λ byte so.
    let m = c.args.self.now in
    let last : c.given.index ≡ c.args.to = omega (arith, c.given-test.false) in
    subst (λ (n : ℕ). ListedBelow m byte c.args.cfa n c.given.room) last (c.given.invariant.so_far byte so)
