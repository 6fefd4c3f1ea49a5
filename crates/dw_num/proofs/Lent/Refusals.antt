-- Errors of calls that read.
use Rattle.dw_num.proofs.Words.{Refusal}
use Rattle.dw_num.specs.{declared.error.ReadError.ReadError, declared.error.ReadError.TheVariants.{Refused, OutOfMemory}, Refusals.Refuses}

pub refuses_by : (e : ReadError) (P Q : Refusal → Type 0) → ((r : Refusal) → P r → Q r) → Refuses P e → Refuses Q e
refuses_by (Refused r) P Q to h = to r h
refuses_by OutOfMemory P Q to h = tt
