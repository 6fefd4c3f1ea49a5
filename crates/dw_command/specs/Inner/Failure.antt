-- What the code and its proofs say beside Failure.
use Rattle.dw_normal.specs.declared.error.WriteError.{WriteError}
use Rattle.dw_normal.specs.declared.error.WriteError.TheVariants as write_error
use Rattle.dw_show.specs.declared.failure.Failure.{Failure}
use Rattle.dw_show.specs.declared.failure.Failure.TheVariants as failures

abbrev pub of_write : WriteError → Failure
of_write (write_error.Refused refusal) = failures.Refused refusal
of_write (write_error.Write written) = failures.CannotWrite
of_write (write_error.Memory written) = failures.OutOfMemory
