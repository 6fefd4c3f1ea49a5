use Rattle.dw_show.proofs.{Words.{◌≡◌, ◌∙◌, ◌≤◌, ◌-◌, ◌++◌, ap, sym, arith, ℕ, List, length, take, rules, append_known-moved}, Puts.{parted, whole}}
use Rattle.dw_show.proofs.listing.Listing.write_out.Goals as goal

pub returns-clause-held : goal.returns-clause-held
returns-clause-held g c =
    let len = c.args.self.now.len in
    let room = c.args.self.now.room in
    let m = c.min-len.result in
    let done = c.write_front-done.result in
    let long : length room ≡ 8192 = search (rules, arith) in
    let fits : m ≤ length room = omega (arith, c.min-len.ensures, long) in
    let all : take m room ≡ take len room = ap (λ (k : ℕ). take k room) c.min-len.ensures ∙ whole len 8192 room long in
    let most : done ≤ m = search (rules, arith) in
    (take done (take m room), parted len m done room all most fits ∙ ap (λ (l : List ℕ). take done (take m room) ++ take (m - done) l) (sym c.copy_within.ensures.after))

pub returns-clause-put : goal.returns-clause-put
unfolding returns-clause-held
returns-clause-put g c =
    let held = returns-clause-held g c in
    append_known-moved _ _ held.0 _ _ c.write_front-done.ensures.took held.1
