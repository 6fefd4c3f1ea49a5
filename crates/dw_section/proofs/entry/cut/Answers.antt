use Rattle.dw_section.proofs.{Words.{ap, arith, length, length-append, all_bytes}, Counts.pieces_few, Items.{kept_entry, kept_gap}}
use Rattle.dw_section.proofs.entry.cut.Goals as goal

pub keep_entry-requires : goal.keep_entry-requires
keep_entry-requires c =
    let w = c.items.invariant in
    let order = c.args.target.order in
    omega (arith, w.kept.all, ap length w.walked.are, pieces_few order 0 w.walked.items, ap length w.walked.whole, length-append (all_bytes order w.walked.items) c.items.cursor.bytes, c.in_ok-cursor.ensures.found.1)

pub items-preserved-in-None : goal.items-preserved-in-None
items-preserved-in-None c = kept_gap _ c.args.target c.args.bytes.now c.items.cursor c.next_item.new.cursor c.items.invariant (rw c.in-None.is at c.in_ok-next_item.ensures.found).1

pub items-preserved : goal.items-preserved
items-preserved c =
    let p = rw c.in-Some.is at c.in_ok-next_item.ensures.found in
    let w = rw c.in-Some.is at c.in_ok-next_item.ensures.placed in
    kept_entry _ _ c.args.target c.args.bytes.now c.items.cursor c.next_item.new.cursor c.in-Some.piece c.items.invariant p.0 p.1 w c.in_ok-keep_entry-in-Some.ensures
