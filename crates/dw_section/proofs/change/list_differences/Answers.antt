use Rattle.dw_section.proofs.{Words.{place_behind}, BehindCie.{listed_more}}
use Rattle.dw_section.proofs.change.list_differences.Goals as goal

pub registers-preserved-then-keeps : goal.registers-preserved-then-keeps
registers-preserved-then-keeps c =
    listed_more c.args.steps.now.kept c.args.steps.now.steps.current c.registers.changed c.add.new.self c.registers.keeps (place_behind c.registers.last) c.in-Some.register
    c.registers.invariant c.in-Some.ensures.first c.in_ok-add.ensures.added c.is_kept_at-keeps.result (λ is. (c.if-keeps.true, c.is_kept_at-keeps.ensures is))

pub registers-preserved : goal.registers-preserved
registers-preserved c =
    listed_more c.args.steps.now.kept c.args.steps.now.steps.current c.registers.changed c.add.new.self c.registers.keeps (place_behind c.registers.last) c.in-Some.register
    c.registers.invariant c.in-Some.ensures.first c.in_ok-add.ensures.added c.registers.keeps (λ is. absurd cc)
