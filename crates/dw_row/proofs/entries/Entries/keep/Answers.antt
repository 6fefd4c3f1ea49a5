use Rattle.dw_row.proofs.{Words.{rules, filter_same_pairs, entries_of, is_kept}, Lent.Narrowed.{all_left, far_left}}
use Rattle.dw_row.proofs.entries.Entries.keep.Goals as goal

pub returns : goal.returns
returns c =
    let test = is_kept (entries_of c.args.others.now) in let mid = c.keep_near.new.self in let so = c.keep_near.ensures.so in let far' = c.retain.new.self.entries in
    let far = filter_same_pairs _ test _ (λ k v b w f' h. search rules) _ _ c.retain.ensures.filtered in
    record {
      entries = all_left test c.args.self.now mid c.requires.so so c.keep_near.ensures.rules far' far;
      so = record { used = so.used; slots = so.slots; expressions = so.expressions; beside = so.beside; far = far_left test c.args.self.now mid c.requires.so so c.keep_near.ensures.rules far' far };
    }
