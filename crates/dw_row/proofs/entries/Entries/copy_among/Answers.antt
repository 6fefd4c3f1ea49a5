use Rattle.dw_row.proofs.{Words.refl, Copied.{masked_copied, masked_so}}
use Rattle.dw_row.proofs.entries.Entries.copy_among.Goals as goal

pub returns-clause-copied : goal.returns-clause-copied
returns-clause-copied c =
    let s = c.copy_slots.ensures in let none = c.if-not-is_empty.ensures.0 refl in let none' = c.if-not-is_empty-2.ensures.0 refl in
    λ t. masked_copied c.args.self.now c.args.others.now c.copy_slots.new.slots c.requires.so c.requires.others c.args.mask s.slots none none' c.requires.same s.copied s.stays

pub returns-clause-so : goal.returns-clause-so
returns-clause-so c =
    let s = c.copy_slots.ensures in let none = c.if-not-is_empty.ensures.0 refl in let none' = c.if-not-is_empty-2.ensures.0 refl in
    masked_so c.args.self.now c.args.others.now c.copy_slots.new.slots c.requires.so c.requires.others c.args.mask s.slots none none' c.requires.same s.copied s.stays
