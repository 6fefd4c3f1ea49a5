use Rattle.dw_cfa.proofs.Lent.Listings.{made_program, made_fault, made_place}
use Rattle.dw_cfa.proofs.instructions.Instructions.new.Goals as goal

pub returns-clause-program : goal.returns-clause-program
returns-clause-program c = made_program c.args.factors c.args.target c.args.program.at c.args.program.bytes.now c.new.result c.new.ensures c.are_bytes.ensures

pub returns-clause-fault : goal.returns-clause-fault
returns-clause-fault c = made_fault c.args.factors c.args.target c.args.program.at c.args.program.bytes.now c.new.result c.new.ensures c.are_bytes.ensures

pub returns-clause-place : goal.returns-clause-place
returns-clause-place c = made_place c.args.factors c.args.target c.args.program.at c.args.program.bytes.now c.new.result c.new.ensures c.are_bytes.ensures
