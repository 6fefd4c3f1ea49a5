-- What the code lists of nonempty FDEs.
use Rattle.std.specs.Prelude.{ℕ, ◌+◌, ◌<◌, List}
use Rattle.dw_num.specs.{Span.{span_of, input_of}, declared.target.Target.Target}
use Rattle.dw_cfa.specs.{Gives.{Gives, RunsTo}, Runs.Outcome, declared.execution.LocatedRow.LocatedRow}
use Rattle.dw_section.specs.{Accepted.RulesHold, Headers.Head, declared.listed_fde.FoundFde.FoundFde, declared.lookup.Fde.Fde, Inner.Index.IsFound}

abbrev pub fde_of : FoundFde → Fde
fde_of e = record { begin = e.own.begin; end = e.own.begin + e.own.range; return_register = e.cie.return_register }

-- it is of a nonempty FDE of a section whose rules hold
pub record IsFoundIn (target : Target) (s : List ℕ) (e : FoundFde) : Type 0 where
  pub headers : List Head
  pub hold : RulesHold target s headers
  pub is : IsFound headers e
  pub some : 0 < e.own.range

-- the programs of an FDE give these rows
abbrev pub AreRowsOf : Target → FoundFde → List LocatedRow → Type 0
AreRowsOf target e rows = Gives e.cie.factors (input_of target (span_of e.cie.program)) (input_of target (span_of e.own.program)) e.own.begin rows

-- they run to this
abbrev pub RunsSo : Target → FoundFde → Outcome → Type 0
RunsSo target e o = RunsTo e.cie.factors (input_of target (span_of e.cie.program)) (input_of target (span_of e.own.program)) e.own.begin o
