use Rattle.dw_op.proofs.Words.{◌≡◌, ◌+◌, ◌-◌, map, drop, get_or, length, arith, below_more, Addr, bare, blank_parts, drop_of_length-le, length-map}
use Rattle.dw_op.proofs.Lent.EncodeLaws.{going_none, going_more, going_all, drop-bare, in_range_at, each_fits_of, too_far}
use Rattle.dw_op.proofs.least_block.push_ops.Goals as goal

pub loop-index-init : goal.loop-index-init
loop-index-init c = record {
  going = going_none c.args.target (map bare c.args.ops.now) c.args.out.now.items;
  fits = λ j lt. absurd (omega arith);
}

pub branch_bits-requires-clause-within : goal.branch_bits-requires-clause-within
branch_bits-requires-clause-within c =
    let count : length c.args.starts.now - 1 ≡ length c.args.ops.now = omega (arith, c.requires.starts.count) in
    rw count ((in_range_at c.args.target c.args.ops.now c.loop-index.index (Addr 0) c.requires.in_range (omega arith)).within_list)

pub returns-in_default-clause-err : goal.returns-in_default-clause-err
returns-in_default-clause-err c = too_far c.args.target c.args.ops.now c.loop-index.index (Addr 0) c.requires.in_range (omega arith) c.loop-index.invariant.fits (c.in_default.ensures _ _ c.requires.starts)

pub loop-index-preserved : goal.loop-index-preserved
loop-index-preserved c =
    let ops = c.args.ops.now in
    let k = c.loop-index.index in
    let bits = c.in-Some.ensures _ _ c.requires.starts in
    record {
      going = rw c.in_ok-put_op.ensures.ok (
          let here = rw (drop-bare ops k (Addr 0) (omega arith)) at (c.loop-index.invariant.going) in
          going_more c.args.target (map bare ops) c.args.out.now.items k c.in-Some.bits (bare (get_or ops k (Addr 0))) (drop (k + 1) (map bare ops)) c.loop-index.out.items here bits.1);
      fits = below_more _ _ c.loop-index.invariant.fits bits.0;
    }

pub returns-clause-ok : goal.returns-clause-ok
returns-clause-ok c =
    let ops = c.args.ops.now in
    let k = c.loop-index.index in (
      each_fits_of (blank_parts c.args.target (map bare ops)) 0 ops (Addr 0) (λ j lt. let z : 0 + j ≡ j = omega arith in rw z (c.loop-index.invariant.fits j (omega arith))),
      going_all c.args.target (map bare ops) c.args.out.now.items k c.loop-index.out.items (rw (drop_of_length-le (map bare ops) {i = k} (omega (arith, length-map ops bare))) at (c.loop-index.invariant.going)),
    )
