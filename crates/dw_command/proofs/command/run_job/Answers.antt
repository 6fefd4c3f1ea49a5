use Rattle.std.specs.{Prelude.{◌≡◌, ℕ, ◌≤◌, IfOk}, Result.{result_map_both}}
use Rattle.dw_command.proofs.{Words.{Err, Ok, Result, arith, Failure, length, AtEnds, Costs, Cuts, EvalEnds, Normalises, OverFile, Prints, ListsFdes, Tallies, UnwindEnds, costs_text, output_of, member_text, counts_text, entry_text, lines}, Endings.done}
use Rattle.dw_command.proofs.command.run_job.Goals as goal

done_most : (answer : Result (Unit {0}) Failure) (r : Result ℕ Failure) → r ≡ result_map_both (λ _. 0) (λ e. e) answer → IfOk r (λ status. status ≤ 1)
done_most (Ok answer) r is = rw is (omega arith)
done_most (Err e) r is = rw is tt

pub returns-in-At : goal.returns-in-At
returns-in-At g c = record { ends = rw c.in-At.is (done (AtEnds (g.L.Load.gives c.args.files.now) (output_of g.W.Write.contents c.args.out.now) (output_of g.W.Write.contents c.run_at.new.out) c.args.job.target c.in-At.lookup) c.run_at.result c.done.result c.done.ensures c.run_at.ensures); most = done_most _ _ c.done.ensures }

pub returns-in-Check : goal.returns-in-Check
returns-in-Check g c = record { ends = rw c.in-Check.is (done (OverFile (g.L.Load.gives c.args.files.now) (output_of g.W.Write.contents c.args.out.now) (output_of g.W.Write.contents c.run_check.new.out) c.in-Check.path.now (Tallies c.args.job.target) (λ s counts. Prints {A = Unit {0}} (output_of g.W.Write.contents c.args.out.now) (output_of g.W.Write.contents c.run_check.new.out) (counts_text counts (length s)) tt)) c.run_check.result c.done-in-Check.result c.done-in-Check.ensures c.run_check.ensures); most = done_most _ _ c.done-in-Check.ensures }

pub returns-in-Cost : goal.returns-in-Cost
returns-in-Cost g c = record { ends = rw c.in-Cost.is (done (OverFile (g.L.Load.gives c.args.files.now) (output_of g.W.Write.contents c.args.out.now) (output_of g.W.Write.contents c.run_cost.new.out) c.in-Cost.path.now (Costs c.args.job.target) (λ s cost. Prints {A = Unit {0}} (output_of g.W.Write.contents c.args.out.now) (output_of g.W.Write.contents c.run_cost.new.out) (costs_text (length s) cost) tt)) c.run_cost.result c.done-in-Cost.result c.done-in-Cost.ensures c.run_cost.ensures); most = done_most _ _ c.done-in-Cost.ensures }

pub returns-in-Entries : goal.returns-in-Entries
returns-in-Entries g c = record { ends = rw c.in-Entries.is (done (OverFile (g.L.Load.gives c.args.files.now) (output_of g.W.Write.contents c.args.out.now) (output_of g.W.Write.contents c.run_entries.new.out) c.in-Entries.path.now (Cuts c.args.job.target) (λ _ es. Prints {A = Unit {0}} (output_of g.W.Write.contents c.args.out.now) (output_of g.W.Write.contents c.run_entries.new.out) (lines entry_text es) tt)) c.run_entries.result c.done-in-Entries.result c.done-in-Entries.ensures c.run_entries.ensures); most = done_most _ _ c.done-in-Entries.ensures }

pub returns-in-Eval : goal.returns-in-Eval
returns-in-Eval g c = record { ends = rw c.in-Eval.is (done (EvalEnds (g.L.Load.gives c.args.files.now) (output_of g.W.Write.contents c.args.out.now) (output_of g.W.Write.contents c.run_eval.new.out) c.args.job.target c.in-Eval.evaluation) c.run_eval.result c.done-in-Eval.result c.done-in-Eval.ensures c.run_eval.ensures); most = done_most _ _ c.done-in-Eval.ensures }

pub returns-in-Normal : goal.returns-in-Normal
returns-in-Normal g c = record { ends = rw c.in-Normal.is (done (OverFile (g.L.Load.gives c.args.files.now) (output_of g.W.Write.contents c.args.out.now) (output_of g.W.Write.contents c.run_normal.new.out) c.in-Normal.writing.path.now (Normalises c.args.job.target c.in-Normal.writing.cap) (λ _ n. Prints {A = Unit {0}} (output_of g.W.Write.contents c.args.out.now) (output_of g.W.Write.contents c.run_normal.new.out) n tt)) c.run_normal.result c.done-in-Normal.result c.done-in-Normal.ensures c.run_normal.ensures); most = done_most _ _ c.done-in-Normal.ensures }

pub returns-in-Rows : goal.returns-in-Rows
returns-in-Rows g c = record { ends = rw c.in-Rows.is (done (OverFile (g.L.Load.gives c.args.files.now) (output_of g.W.Write.contents c.args.out.now) (output_of g.W.Write.contents c.run_rows.new.out) c.in-Rows.path.now (ListsFdes c.args.job.target) (λ _ ms. Prints {A = Unit {0}} (output_of g.W.Write.contents c.args.out.now) (output_of g.W.Write.contents c.run_rows.new.out) (lines member_text ms) tt)) c.run_rows.result c.done-in-Rows.result c.done-in-Rows.ensures c.run_rows.ensures); most = done_most _ _ c.done-in-Rows.ensures }

pub returns-in-Unwind : goal.returns-in-Unwind
returns-in-Unwind g c = record { ends = rw c.in-Unwind.is (done (UnwindEnds (g.L.Load.gives c.args.files.now) (output_of g.W.Write.contents c.args.out.now) (output_of g.W.Write.contents c.run_unwind.new.out) c.args.job.target c.in-Unwind.unwinding) c.run_unwind.result c.done-in-Unwind.result c.done-in-Unwind.ensures c.run_unwind.ensures); most = done_most _ _ c.done-in-Unwind.ensures }
