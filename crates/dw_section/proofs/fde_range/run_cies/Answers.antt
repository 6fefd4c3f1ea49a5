use Rattle.dw_section.proofs.{Words.{sym, take, subst, AllByRecursion, CieRuns, Initial, initial_in, drop_more, take-append-drop, take_all, refuses_by, take_more, drop, ◌+◌}, KeptCies.{all_ran, first_broken}, Stages.{all_push, handed_on}}
use Rattle.dw_section.proofs.fde_range.run_cies.Goals as goal

pub loop-cie-preserved : goal.loop-cie-preserved
loop-cie-preserved c =
    let xs = c.args.initials.now in
    let i = c.loop-cie.cie-index in
    let x = c.cie-item.result in
    let w = c.in_ok-become_initial.ensures.ok in
    rw (take_more xs i x c.loop-cie-test.true, ← c.cie-item.is) (all_push (λ (cie : Initial). CieRuns c.args.target (initial_in cie)) (take i xs) x c.loop-cie.invariant (w.0, w.1.program, w.1.kept))

pub returns-in_err-become_initial-clause-first : goal.returns-in_err-become_initial-clause-first
returns-in_err-become_initial-clause-first c = λ hs of.
    let xs = c.args.initials.now in
    let i = c.loop-cie.cie-index in
    let x = c.cie-item.result in
    let whole = rw (drop_more xs i x c.loop-cie-test.true, ← c.cie-item.is) at (sym (take-append-drop i xs)) in
    handed_on c.from_residual.result _ c.from_residual.ensures.1 (refuses_by c.in_err-become_initial.field-0.0 _ _ (λ r h. first_broken c.args.target hs xs r of (record { before = take i xs; it = x; after = drop (i + 1) xs; whole = whole; hold = c.loop-cie.invariant; stuck = h })) c.in_err-become_initial.ensures.err)

pub returns-clause-found : goal.returns-clause-found
returns-clause-found c = λ hs of. all_ran c.args.target hs c.args.initials.now of (subst (AllByRecursion (λ (cie : Initial). CieRuns c.args.target (initial_in cie))) (take_all c.loop-cie.cie-index c.args.initials.now c.loop-cie-test.false) c.loop-cie.invariant)
