-- Faults that come up to an address are those where a run stops up to there.
use Rattle.dw_cfa.proofs.Words.{◌≡◌, ℕ, ◌≤◌, List, [], ◌∷◌, ◌++◌, length, Some, Result, Ok, Err, refl, sym, ap, ◌∙◌, subst, inl, inr, arith, IfErr, OnOk, AreBytes, CfaRule, Factors, Input, Instr, Outcome, Placed, ReadError, Refusal}
use Rattle.dw_cfa.proofs.Words.{Refuses, Rules, State, address_limit, Refused, OutOfMemory, location, AreSpecified, blank, FdeFaultBehind, FdeFaultUpTo, FaultUpTo, NoFaultUpTo, begun, after, fde_fault, RunsTo, last_at, FoundAt, fde_rows}
use Rattle.dw_cfa.proofs.{Words.{fde_stop, initial_row, on_initial, placed, rows_behind, run_rows, run_stop, stop_on}, Lent.FaultLaws.{begun_stands, leaves, leaves_initial, stops_of, fde_fault_found, fde_fault_only, cie_fault_found}}
use Rattle.dw_cfa.proofs.{Lent.FaultLaws.cie_fault_only, Lent.Given.{none_next, runs_run}, Lent.KeptLaws.all_in_limit, Lent.KeptRuns.{AllInLimit, ended_stands}, Lent.RowsAt.instrs_of, Stops.{AllRun, ends}, StopsTo.stops_here}

-- ---- an FDE's program

-- a run that is not refused stops where what follows it does
past : (limit : ℕ) (initial : Rules) (before tail : List Placed) (s : State) → AllRun (fde_fault limit) (after initial) before s
    → fde_stop limit initial (before ++ tail) s ≡ fde_stop limit initial tail (ends (after initial) before s)
unfolding fde_stop
past limit initial [] tail s run = refl
past limit initial (p ∷ before) tail s run = rw run.0 (past limit initial before tail (after initial p.instr s) run.1)

module _ (f : Factors) (initial : Rules) (i : Input) (begin : ℕ) (h : AreBytes i.bytes) (le : begin ≤ address_limit i.target.size) (listed : AreSpecified 0 initial.registers) where
  abbrev stop : ℕ
  stop = fde_stop (address_limit i.target.size) initial (placed f i).items (begun initial begin)

  -- behind which instructions a fault stands says where the run stops
  fault_there : (r : Refusal) (instrs : List Instr) → FdeFaultBehind f initial.cfa i begin instrs r → stop ≡ location begin instrs (length instrs)
  fault_there r instrs fault =
      let limit = address_limit i.target.size in
      let s = begun initial begin in
      let found = stops_of f initial i begin h le listed r instrs fault in
      let d = found.0 in
      let all : AllInLimit limit instrs = elim fault.1 [ inl stuck ↦ all_in_limit i.target f instrs stuck.front stuck.read | inr b ↦ all_in_limit i.target f instrs b.front b.read ] in
      ap (λ (l : List Placed). fde_stop limit initial l s) d.whole ∙ past limit initial d.before d.after s d.run
      ∙ stops_here limit initial d.after (placed f i).fault (ends (after initial) d.before s) (none_next initial begin limit d.after (placed f i).fault (ends (after initial) d.before s) r d.refused)
      ∙ (ended_stands limit begin initial d.before [] s (begun_stands limit begin initial listed le) (subst (AllInLimit limit) (sym found.1) all) d.run).follows.location ∙ ap (λ (l : List Instr). location begin l (length l)) found.1

  fde_found : (a : ℕ) (r : Refusal) → (rows_behind f initial i begin).fault ≡ Some r → stop ≤ a → FdeFaultUpTo f initial.cfa i begin a r
  fde_found a r e below =
      let found = fde_fault_found f initial i begin h le listed r e in
      (found.0, found.1, omega (arith, fault_there r found.0 found.1))

  fde_only : (a : ℕ) (r : Refusal) → FdeFaultUpTo f initial.cfa i begin a r → ((rows_behind f initial i begin).fault ≡ Some r) × (stop ≤ a)
  fde_only a r (instrs, fault, below) = (fde_fault_only f initial i begin h le listed r (instrs, fault), omega (arith, below, fault_there r instrs fault))

-- ---- both programs

module _ (f : Factors) (cie fde : Input) (begin : ℕ) (cb : AreBytes cie.bytes) (fb : AreBytes fde.bytes) (le : begin ≤ address_limit fde.target.size) (a : ℕ) where
  abbrev go : Rules → Outcome
  go initial = fde_rows (address_limit fde.target.size) initial (placed f fde).items (placed f fde).fault (begun initial begin)

  abbrev halt : Rules → ℕ
  halt initial = fde_stop (address_limit fde.target.size) initial (placed f fde).items (begun initial begin)

  from_initial : (r : Refusal) (x : Result Rules Refusal) → initial_row (placed f cie) blank ≡ x → (on_initial x go).fault ≡ Some r → stop_on x begin halt ≤ a → FaultUpTo f cie fde begin a r
  unfolding rows_behind
  from_initial r (Ok initial) is e below =
      let left = leaves f cie initial cb is in
      inr (instrs_of (placed f cie).items, left.program, left.kept, subst (λ (c : CfaRule). FdeFaultUpTo f c fde begin a r) left.cfa (fde_found f initial fde begin fb le left.listed a r e below))
  from_initial r (Err q) is e below = let same : q ≡ r = cc in inl (cie_fault_found f cie cb r (is ∙ ap Err same))

  found : (r : Refusal) → (run_rows f cie fde begin).fault ≡ Some r → run_stop f cie fde begin ≤ a → FaultUpTo f cie fde begin a r
  unfolding run_rows run_stop
  found r e below = from_initial r (initial_row (placed f cie) blank) refl e below

  only : (r : Refusal) → begin ≤ a → FaultUpTo f cie fde begin a r → ((run_rows f cie fde begin).fault ≡ Some r) × (run_stop f cie fde begin ≤ a)
  unfolding run_rows run_stop rows_behind
  only r start (inl fault) = rw (cie_fault_only f cie cb r fault) (refl, start)
  only r start (inr (instrs, program, kept, fault)) =
      let left = leaves_initial f cie instrs cb program kept in
      rw left.1 (fde_only f left.0 fde begin fb le left.2.listed a r (subst (λ (c : CfaRule). FdeFaultUpTo f c fde begin a r) (sym left.2.cfa) fault))

  -- what a run up to the address answers
  pub up_to : {X : Type 0} (result : Result X ReadError) (row : Rules) → begin ≤ a → FoundAt a f cie fde begin row result
      → ((o : Outcome) → RunsTo f cie fde begin o → OnOk result (last_at a o.rows ≡ Some row) × IfErr result (Refuses (λ r. o.fault ≡ Some r)))
      × IfErr result (Refuses (FaultUpTo f cie fde begin a)) × OnOk result (NoFaultUpTo f cie fde begin a)
  up_to (Ok x) row start (last, above) = (
    λ o runs. (subst (λ (p : Outcome). last_at a p.rows ≡ Some row) (sym (runs_run f cie fde begin cb fb le o runs)) last, tt),
    tt,
    λ r fault. let there = only r start fault in absurd (omega (arith, above r there.0, there.1)),
  )
  up_to (Err OutOfMemory) row start found = (λ o runs. (tt, tt), tt, tt)
  up_to (Err (Refused r)) row start (e, below) = (λ o runs. (tt, ap (λ (p : Outcome). p.fault) (runs_run f cie fde begin cb fb le o runs) ∙ e), found r e below, tt)
