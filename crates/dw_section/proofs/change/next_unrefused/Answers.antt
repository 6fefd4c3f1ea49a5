use Rattle.dw_section.proofs.StandFaults.{no_refusal}
use Rattle.dw_section.specs.Inner.Changes.{fault_of}
use Rattle.dw_section.proofs.change.next_unrefused.Goals as goal

pub memory_error-requires : goal.memory_error-requires
memory_error-requires c = no_refusal c.in-Err.error (fault_of c.args.steps.now.steps) c.in-Err.ensures.judges c.requires
