use Rattle.std.proofs.lemmas.List.{take_all}
use Rattle.dw_show.proofs.{Words.{◌≡◌, ◌∙◌, ℕ, ◌+◌, ◌<◌, arith, map, length, subst, ap, get_or, take, total, members_exist, change_count}, Members.{as_many, changes_few, come_all, counted_more, no_member}, TextLines.total_more}
use Rattle.dw_show.proofs.section.tally.Goals as goal

pub loop-place-preserved : goal.loop-place-preserved
loop-place-preserved c =
    let t = c.args.table.now.target in
    let s = c.args.table.now.bytes in
    let k = c.loop-place.place in
    let b = c.accepted.ensures.bytes in
    let ok = c.accepted.ensures.accepted in
    let count = c.fde_count-place-end in (
      c.in_ok-count_changes.ensures.section ∙ c.go_on.ensures.section,
      λ ms are.
          let lt : k < length ms = subst (λ (n : ℕ). k < n) (as_many t s ms count.result are count.ensures) c.loop-place-test.true in
          let come = come_all t s b ok ms are k no_member lt c.go_on.new.changes.to_come c.go_on.ensures.changes in
          counted_more c.loop-place.count c.in_ok-count_changes.field-0 (total (map change_count (take (k + 1) ms)))
          c.saturating_add-count.result (total (map change_count (take k ms)))
          (length c.go_on.new.changes.to_come) (change_count (get_or ms k no_member))
          c.saturating_add-count.ensures c.in_ok-count_changes.ensures.count (c.loop-place.invariant.1 ms are)
          (total_more change_count ms k no_member lt) (ap length come),
    )

-- there are no more than rows, so none is left out
pub returns : goal.returns
returns c =
    let t = c.args.table.now.target in
    let s = c.args.table.now.bytes in
    let b = c.accepted.ensures.bytes in
    let ok = c.accepted.ensures.accepted in
    let count = c.fde_count-place-end in
    let found = members_exist t s b ok in
    let few = changes_few t s b ok found.0 found.1 c.args.starts c.requires.starts in
    let many = as_many t s found.0 count.result found.1 count.ensures in
    let all : take c.loop-place.place found.0 ≡ found.0 = take_all c.loop-place.place found.0 (omega (arith, many, c.loop-place-test.false)) in
    let sum = rw all at (c.loop-place.invariant.1 found.0 found.1) in
    record { members = found.0; are = found.1; sum = omega (arith, sum, few, c.ranges.starts.fits) }
