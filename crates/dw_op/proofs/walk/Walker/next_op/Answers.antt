use Rattle.dw_op.proofs.{Words.{ℕ, ◌+◌, refl, ◌≡◌, Option, Some, None, ap, Location, bare, bare_step, weight, sum_in, find_at, goes_to, block_of, SoughtSo}, Walkers.{gone_on, to_seek, walked_branch, walked_nowhere, walked_plain}}
use Rattle.dw_op.proofs.walk.Walker.next_op.Goals as goal

pub returns-in-Some : goal.returns-in-Some
returns-in-Some c =
    let w = c.args.self.now in
    let n = c.added.result in
    let is_n : n ≡ weight w.measure w.here.target (bare_step c.in_ok-step.step) = rw c.target-target.ensures at c.added.ensures in
    let so : SoughtSo (w.here.at + 3) c.sought.new.self = rw c.at-at.ensures.place at c.in-Some.ensures.so in
    let found : Some c.in-Some.before ≡ find_at (sum_in w.measure Location (block_of (gone_on w c.next_step.new.cursor n))) (goes_to (w.here.at + 3) c.in-Jump.number) = rw c.at-at.ensures.place at c.in-Some.ensures.exact in
    walked_branch w (bare_step c.in_ok-step.step) c.next_step.new.cursor n c.requires c.in_ok-step.ensures is_n c.in-Jump.branch c.in-Jump.number (ap bare_step c.in-Jump.is) c.sought.new.self (Some c.in-Some.before) found
    (bare c.named.result) c.named.ensures so c.in-Some.ensures.stays.here c.in-Some.ensures.stays.bytes c.in-Some.ensures.stays.measure c.in-Some.ensures.stays.count

pub returns-in-None : goal.returns-in-None
returns-in-None c =
    let w = c.args.self.now in
    let n = c.added.result in
    let is_n : n ≡ weight w.measure w.here.target (bare_step c.in_ok-step.step) = rw c.target-target.ensures at c.added.ensures in
    let none : Option ℕ = None in
    let found : none ≡ find_at (sum_in w.measure Location (block_of (gone_on w c.next_step.new.cursor n))) (goes_to (w.here.at + 3) c.in-Jump.number) = rw c.at-at.ensures.place at c.in-None.ensures.exact in
    rw (c.refused.ensures, c.at-at.ensures.place)
    (walked_nowhere w (bare_step c.in_ok-step.step) c.next_step.new.cursor n c.requires c.in_ok-step.ensures is_n c.in-Jump.branch c.in-Jump.number (ap bare_step c.in-Jump.is) c.sought.new.self none found refl)

pub sought-requires : goal.sought-requires
sought-requires c =
    rw c.at-at.ensures.place (to_seek c.args.self.now (bare_step c.in_ok-step.step) c.next_step.new.cursor c.added.result c.requires c.in_ok-step.ensures (rw c.target-target.ensures at c.added.ensures))

pub returns-in-Plain : goal.returns-in-Plain
returns-in-Plain c =
    walked_plain c.args.self.now (bare_step c.in_ok-step.step) c.next_step.new.cursor c.added.result c.requires c.in_ok-step.ensures (rw c.target-target.ensures at c.added.ensures) (bare c.in-Plain.op) (ap bare_step c.in-Plain.is)
