use Rattle.dw_row.proofs.Lent.SameRows.{same_rows}
use Rattle.dw_cfa.proofs.Lent.{Given.{behind_where_fault, given_falls, given_holds, given_where_kept, gives_where_kept, leaves_where_kept, one_behind, one_initial, one_run, refused_where_fault, rules_behind}}
use Rattle.dw_cfa.proofs.{Lent.{FaultPlaces.{cie_within, fde_within, run_within}, InstrCounts.{counts_exists, one_count}, Openings.{first_cfa, first_rule}}, Words.{sym, ◌∙◌, FirstRowIsBegin, OneHolds, OneCount, rule}}
use Rattle.dw_cfa.proofs.Match.{restores_matched, match_exists}
use Rattle.dw_cfa.proofs.laws.row_laws.Goals as goal

one_holds : OneHolds
one_holds cie fde k row other v w = same_rows row other v.listed w.listed (v.cfa ∙ sym w.cfa) (λ r. v.rules r ∙ sym (w.rules r))

count : OneCount
count begin instrs a from = let k = counts_exists begin instrs a from in (k.0, k.1, λ other counts. one_count begin instrs a other k.0 counts k.1)

first_row_is_begin : FirstRowIsBegin
first_row_is_begin initial begin instrs offset k row first counts holds =
    (holds.cfa ∙ first_cfa initial.cfa begin offset instrs k first counts, λ r. holds.rules r ∙ first_rule (rule initial r) begin offset instrs r k first counts)

pub returns : goal.returns
returns c = record {
  run = one_run;
  refused = refused_where_fault;
  kept = given_where_kept;
  forwards = given_falls;
  holds = given_holds;
  one = one_holds;
  listing = same_rows;
  count = count;
  first = first_row_is_begin;
  within = run_within;
  matched = restores_matched;
  found = match_exists;
  initial = one_initial;
  initial_kept = leaves_where_kept;
  initial_within = cie_within;
  behind = one_behind;
  behind_kept = gives_where_kept;
  behind_rules = λ f initial fde begin fb listed le o. rules_behind f initial fde begin o fb listed le;
  behind_refused = behind_where_fault;
  behind_within = fde_within;
}
