use Rattle.dw_dump.proofs.{Words.{address_limit, lines_of}, OneDump.{only_dump, refuses_within}}
use Rattle.dw_dump.proofs.dump.Dump.parse.Goals as goal

pub returns-clause-only : goal.returns-clause-only
returns-clause-only c = only_dump (address_limit c.args.target.size) (lines_of c.args.bytes.now) c.dump_of.result (rw c.address_limit.ensures at c.dump_of.ensures.found) (rw c.address_limit.ensures at c.dump_of.ensures.first)

pub returns-clause-within : goal.returns-clause-within
returns-clause-within c = refuses_within (address_limit c.args.target.size) (lines_of c.args.bytes.now) c.dump_of.result (rw c.address_limit.ensures at c.dump_of.ensures.first)
