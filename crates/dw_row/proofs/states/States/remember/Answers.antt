use Rattle.dw_row.proofs.{Words.{err_from_is_err_and, ◌∙◌, sym}, StatesLaws.{none_saved, saved_held, saved_so, unsaved_held}}
use Rattle.dw_row.proofs.states.States.remember.Goals as goal

pub keep-requires : goal.keep-requires
keep-requires c = none_saved c.self.view_is c.self.invariant.1 c.self.inside.row.registers (sym c.depth.ensures ∙ c.if-depth-eq0.true)

pub invariant_of-self : goal.invariant_of-self
invariant_of-self c =
    (c.self.invariant.0, saved_so c.self.view_is c.self.invariant.1 c.if-not-self.true (sym c.depth.ensures ∙ c.if-depth-eq0.true) c.keep.new.self c.clear.new.self.items c.clear.ensures c.in_err-keep.ensures.so)

pub invariant_of-self-then-is_narrow : goal.invariant_of-self-then-is_narrow
invariant_of-self-then-is_narrow c =
    (c.self.invariant.0, saved_so c.self.view_is c.self.invariant.1 c.if-not-self.true (sym c.depth.ensures ∙ c.if-depth-eq0.true) c.keep.new.self c.clear.new.self.items c.clear.ensures c.in_ok-keep.ensures.so)

pub returns-then-is_narrow-clause-remembered : goal.returns-then-is_narrow-clause-remembered
returns-then-is_narrow-clause-remembered c =
    saved_held c.self.view_is c.self.invariant.1 c.if-not-self.true (sym c.depth.ensures ∙ c.if-depth-eq0.true) c.keep.new.self c.clear.new.self.items c.clear.ensures c.in_ok-keep.ensures.ok c.in_ok-keep.ensures.watched

pub returns-in_err-keep-clause-err : goal.returns-in_err-keep-clause-err
returns-in_err-keep-clause-err c =
    rw (err_from_is_err_and c.from_residual.result c.from_residual.ensures.1).1 (unsaved_held c.self.view_is c.self.invariant.1 c.if-not-self.true (sym c.depth.ensures ∙ c.if-depth-eq0.true) c.keep.new.self c.clear.new.self.items c.clear.ensures c.in_err-keep.ensures.err)
