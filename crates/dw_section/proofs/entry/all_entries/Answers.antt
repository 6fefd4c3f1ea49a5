use Rattle.dw_section.proofs.{Words.{◌∙◌, ◌++◌, ◌∷◌, [], List, ap, sym, entry_of, map-append, piece_in}, Items.{kept_entry, kept_gap}}
use Rattle.dw_section.specs.declared.entry.Entry.{Entry}
use Rattle.dw_section.proofs.entry.all_entries.Goals as goal

pub items-preserved-in-None : goal.items-preserved-in-None
items-preserved-in-None c = kept_gap _ c.args.target c.args.bytes.now c.items.cursor c.next_item.new.cursor c.items.invariant (rw c.in-None.is at c.in_ok-next_item.ensures.found).1

pub items-preserved : goal.items-preserved
items-preserved c =
    let p = rw c.in-Some.is at c.in_ok-next_item.ensures.found in
    let w = rw c.in-Some.is at c.in_ok-next_item.ensures.placed in
    kept_entry _ _ c.args.target c.args.bytes.now c.items.cursor c.next_item.new.cursor c.in-Some.piece c.items.invariant p.0 p.1 w
    (λ ps is. c.in_ok-push-in-Some.ensures.items ∙ ap (λ (es : List Entry). es ++ entry_of (piece_in c.in-Some.piece) ∷ []) is ∙ sym (map-append entry_of ps (piece_in c.in-Some.piece ∷ [])))
