use Rattle.dw_command.proofs.{Words.{map, rules, string_bytes, failures_of}, Loans.{ends, of_loan}}
use Rattle.dw_command.proofs.command.engine.Goals as goal

pub returns-clause-runs : goal.returns-clause-runs
returns-clause-runs g c =
    let run = rw (c.new-listing.ensures.empty, c.new-listing.ensures.works, c.new-listing.ensures.out, c.new.ensures.given, c.new.ensures.out) at c.run_over-status.ensures.ends.1 in (
      c.run_over-status.ensures.ends.0,
      failures_of c.run_over-status.new.out.failed,
      ends _ _ _ _ (of_loan _ _ _ _ _ c.new-listing.result.room _ _ _ _ (λ same. search rules)) (g.L.Load.gives c.args.files.now) (map string_bytes c.args.words.now) _ run,
      c.run_over-status.ensures.ends.2,
    )
