use Rattle.dw_dump.proofs.{Words.{◌<◌, ◌^◌, length, IsSoundRange, Range}, RangeLaws.{have_bytes, all_permuted, apart_permuted, apart_rise, byte_permuted}}
use Rattle.dw_dump.proofs.memory.DumpMemory.new.Goals as goal

pub invariant_of-result : goal.invariant_of-result
invariant_of-result c =
    let xs = c.args.ranges.items in
    let ys = c.put_in_order.new.list.items in
    let p = c.put_in_order.ensures.same in
    let some = have_bytes (2 ^ 64) (length c.args.bytes.items) xs c.requires.within in record {
      rise = apart_rise ys (all_permuted (λ (r : Range). 0 < r.len) xs ys p some) c.put_in_order.ensures.rises (apart_permuted xs ys p c.requires.apart);
      within = all_permuted (IsSoundRange (2 ^ 64) (length c.args.bytes.items)) xs ys p c.requires.within;
    }

pub returns : goal.returns
returns c = λ a. byte_permuted c.args.bytes.items a c.args.ranges.items c.put_in_order.new.list.items c.put_in_order.ensures.same c.requires.apart
