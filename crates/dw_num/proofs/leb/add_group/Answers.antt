use Rattle.dw_num.proofs.{Words.{arith, ◌+◌, ◌≡◌, ◌*◌, ◌^◌, ◌%◌, inl, inr}, LebLemmas.{far_group, ninth_group, group_shifted, ninth_shifted, total_of}}
use Rattle.dw_num.proofs.leb.add_group.Goals.{then-place-gt-TOP_PLACE-via-then-place-gt-TOP_PLACE, then-place-gt-TOP_PLACE-via-else-place-gt-TOP_PLACE+then-group-gt-TOP_GROUP}
use Rattle.dw_num.proofs.leb.add_group.Goals as goal

pub returns-then-place-gt-TOP_PLACE : goal.returns-then-place-gt-TOP_PLACE
returns-then-place-gt-TOP_PLACE c = elim c.then-place-gt-TOP_PLACE.branch [
  | then-place-gt-TOP_PLACE-via-then-place-gt-TOP_PLACE w ↦ far_group c.args.total c.args.place c.args.group w.if-place-gt-TOP_PLACE.true (omega arith)
  | then-place-gt-TOP_PLACE-via-else-place-gt-TOP_PLACE+then-group-gt-TOP_GROUP w ↦ ninth_group c.args.total c.args.place c.args.group w.if-group-gt-TOP_GROUP.true.0 w.if-group-gt-TOP_GROUP.true.1
]

pub returns : goal.returns
returns c =
    let shifted : (c.args.group * 2 ^ (7 * c.args.place)) % 2 ^ 64 ≡ c.args.group * 128 ^ c.args.place = elim c.if-group-gt-TOP_GROUP.either [
      | inl h ↦ ninth_shifted c.args.place c.args.group h.1 h.0
      | inr h ↦ group_shifted c.args.place c.args.group c.requires (omega arith)
    ] in
    let e = rw shifted at c.checked_add.ensures in total_of (c.args.total + c.args.group * 128 ^ c.args.place) c.checked_add.result e
