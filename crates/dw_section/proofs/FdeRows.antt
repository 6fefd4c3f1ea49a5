-- The programs of an FDE of a section whose rules hold give rows.
use Rattle.dw_section.proofs.Words.{ℕ, List, sym, ap, subst, ◌∙◌, arith, Target, AreBytes, input_of, address_limit, Instr, CfaRule, ProgramSpells, CieKept, FdeKept, initial_cfa, RulesHold, IsAmong, Head}
use Rattle.dw_section.proofs.Words.{CieHead, FdeHead, fde, HasBytes, FdeFits, cie_ats, CieRuns, FdeRuns, InitialInstrs, factors_of, gives_where_kept, leaves_where_kept}
use Rattle.dw_section.proofs.{Lent.{Heads.{one_program, all_in, heads_rise, heads_bytes, heads_fit}, ChangeLaws.Given, CheckFirst.one_instrs}}

pub given : (target : Target) (s : List ℕ) → AreBytes s → (hs : List Head) → RulesHold target s hs → (c : CieHead) (h : FdeHead) (i j : List Instr)
    → IsAmong (fde h) hs → InitialInstrs target hs h.cie_at c i → ProgramSpells target (factors_of c) j h.program.bytes → Given target c h i j
given target s b hs hold c h i j among begins spelled =
    let headers = hold.0.0.0 in
    let bytes = heads_bytes target s hs b headers in
    let cie_bytes = all_in HasBytes hs _ bytes begins.among in
    let fde_bytes = all_in HasBytes hs _ bytes among in
    let cie_runs = all_in (CieRuns target) hs _ hold.0.0.1 begins.among in
    let fde_runs = all_in (FdeRuns target hs) hs _ hold.0.1 among in
    let fits = all_in (FdeFits target (cie_ats hs)) hs _ (heads_fit target s hs headers) among in
    let f = factors_of c in
    let initial = one_program f target c.program.bytes cie_runs.0 i cie_bytes cie_runs.1 begins.spelled in
    let one = one_instrs target hs (heads_rise target s hs headers) bytes h.cie_at h.program fde_runs.0 fde_runs.1 i j fde_bytes fde_runs.2 (record { head = c; begins = begins; spelled = spelled }) in
    let left = leaves_where_kept f (input_of target c.program) i cie_bytes begins.spelled (subst CieKept initial cie_runs.2) in
    let kept = subst (λ (x : CfaRule). FdeKept (address_limit target.size) h.begin x j) (ap initial_cfa one.0 ∙ sym left.1.cfa) (subst (FdeKept (address_limit target.size) h.begin (initial_cfa fde_runs.0)) one.1 fde_runs.3) in
    let gave = gives_where_kept f left.0 (input_of target h.program) h.begin fde_bytes left.1.listed (omega (arith, fits.0)) j spelled kept in
    record { first = left.0; rows = gave.0; run = (i, left.0, left.1, gave.1); leaves = left.1; gives = gave.2 }
