use Rattle.dw_normal.proofs.{Words.{Some, Refuses, NormalFault}, FaultPlaces.refused_within, Reports.{tape_found, tape_only, tape_fault, only_memory, only_long}, normal.normalise.Goals.After-unread}
use Rattle.dw_normal.proofs.normal.normalise.Goals as goal

refused : (c : After-unread) → Refuses (NormalFault c.args.target c.args.cap c.args.bytes.now) c.unread.result
refused c =
    tape_fault c.args.target c.args.cap c.args.bytes.now c.new-tape.result.failures c.normalise_to.new.sink.failures
    (Some c.new-tape.result.bytes.items) (Some c.normalise_to.new.sink.bytes.items) c.in-Err.error c.unread.result c.in-Err.ensures.writes c.unread.ensures

pub returns-in-Ok-clause-found : goal.returns-in-Ok-clause-found
returns-in-Ok-clause-found c =
    tape_found c.args.target c.args.cap c.args.bytes.now c.are_bytes.ensures c.new-tape.result.failures c.normalise_to.new.sink.failures
    (Some c.new-tape.result.bytes.items) (Some c.normalise_to.new.sink.bytes.items) c.new-tape.ensures.empty c.in-Ok.field-0 c.into_bytes.result.items c.in-Ok.ensures.writes c.into_bytes.ensures

pub returns-in-Ok-clause-only : goal.returns-in-Ok-clause-only
returns-in-Ok-clause-only c = λ n normal within.
    tape_only c.args.target c.args.cap c.args.bytes.now c.are_bytes.ensures c.new-tape.result.failures c.normalise_to.new.sink.failures
    (Some c.new-tape.result.bytes.items) (Some c.normalise_to.new.sink.bytes.items) c.new-tape.ensures.empty c.in-Ok.field-0 c.into_bytes.result.items c.in-Ok.ensures.writes c.into_bytes.ensures n normal

pub returns-in-Err-clause-first : goal.returns-in-Err-clause-first
returns-in-Err-clause-first c = refused (goal.at.returns-in-Err-clause-first c).After-unread

pub returns-in-Err-clause-only : goal.returns-in-Err-clause-only
returns-in-Err-clause-only c = λ n normal within.
    only_memory c.args.target c.args.bytes.now n c.args.cap c.are_bytes.ensures normal c.unread.result (refused (goal.at.returns-in-Err-clause-only c).After-unread) within

pub returns-in-Err-clause-longer : goal.returns-in-Err-clause-longer
returns-in-Err-clause-longer c = λ n normal longer.
    only_long c.args.target c.args.bytes.now n c.args.cap c.are_bytes.ensures normal c.unread.result (refused (goal.at.returns-in-Err-clause-longer c).After-unread)

pub returns-in-Err-clause-within : goal.returns-in-Err-clause-within
returns-in-Err-clause-within c =
    refused_within c.cited_laws.ensures.within c.args.target c.args.bytes.now c.are_bytes.ensures c.args.cap c.unread.result (refused (goal.at.returns-in-Err-clause-within c).After-unread)
