use Rattle.dw_normal.proofs.{Reports.{length_found, length_only, only_memory}, FaultPlaces.refused_within}
use Rattle.dw_normal.proofs.normal.normal_length.Goals as goal

pub returns-in-Ok-clause-found : goal.returns-in-Ok-clause-found
returns-in-Ok-clause-found c = length_found c.args.target c.args.cap c.args.bytes.now c.in-Ok.len (c.in-Ok.ensures).found

pub returns-in-Ok-clause-only : goal.returns-in-Ok-clause-only
returns-in-Ok-clause-only c = λ n normal within. length_only c.args.target c.args.bytes.now c.args.cap c.in-Ok.len c.are_bytes.ensures (c.in-Ok.ensures).found n normal

pub returns-in-Err-clause-only : goal.returns-in-Err-clause-only
returns-in-Err-clause-only c = λ n normal within. only_memory c.args.target c.args.bytes.now n c.args.cap c.are_bytes.ensures normal c.in-Err.error c.in-Err.ensures.first within

pub returns-in-Err-clause-within : goal.returns-in-Err-clause-within
returns-in-Err-clause-within c =
    refused_within c.cited_laws.ensures.within c.args.target c.args.bytes.now c.are_bytes.ensures c.args.cap c.in-Err.error c.in-Err.ensures.first
