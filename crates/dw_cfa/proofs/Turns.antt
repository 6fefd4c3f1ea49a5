-- One turn of the loop, in the rows still to come.
use Rattle.dw_cfa.proofs.Words.{◌≡◌, ℕ, ◌<◌, ◌^◌, Bool, true, false, length, None, Ok, Err, refl, sym, ap, ◌∙◌, subst, AreBytes, Factors, Input, Instr, Machine, Read, Refusal, Rules, SetLoc, Advance, Restore, RememberState, RestoreState}
use Rattle.dw_cfa.proofs.Words.{Size, Four, Eight, ◌≤◌, arith, address_limit, moves_location, instr_at, fails, RunsSo, RanTo, WroteTo, IsAfter, State, after, written, cie_fault, state_of, program_fault}
use Rattle.dw_cfa.specs.{declared.machine.End.End, Inner.Steps.InLimit, Inner.Turns.{Did, Does, Entered, Stays, Taken, Turned, cie_machine}}
use Rattle.dw_cfa.proofs.RunSteps.{fde_is, rows_stuck, rows_fault, rows_ran, initial_stuck, initial_fault, initial_wrote}
use Rattle.dw_cfa.specs.declared.machine.End.TheVariants as ends

abbrev Takes : Type 0 → Type 1
Takes K = K → Instr → ℕ → End → Refusal → K → Type 0

-- what no instruction changes stays, whether one was read or not
pub stays : (cie : Bool) {K : Type 0} (machine : K → Machine) (takes : Takes K) → Does cie machine takes
    → (r : Read Instr) (at : ℕ) (k : K) (end : End) (fault : Refusal) (j : Input) (k' : K) → Taken takes r at k end fault j k' → Stays (machine k) (machine k')
stays cie machine takes does (Ok x) at k end fault j k' did = (does k x.0 at end fault k' did.1).1
stays cie {K} machine takes does (Err r) at k ends.Refused fault j k' did = (ap (λ (k : K). (machine k).initial) did.1, ap (λ (k : K). (machine k).states.kept) did.1)
stays cie machine takes does (Err r) at k end fault j k' did = absurd did

module _ {K : Type 0} (machine : K → Machine) (takes : Takes K) (does : Does false machine takes) (f : Factors) (i : Input) (k : K) (h : AreBytes i.bytes) (some : 0 < length i.bytes) (so : RunsSo (machine k) i) where
  ran_on : (x : Instr × Input) → instr_at f i ≡ Ok x → (moved : Bool) (j : Input) (k' : K) → x.1 ≡ j → (moves_location x.0 ≡ moved) × IsAfter false (machine k) x.0 (machine k') → RanTo f i (machine k) moved j (machine k')
  ran_on x e moved j k' at ran =
      subst (λ (b : Bool). RanTo f i (machine k) b j (machine k')) ran.0 (subst (λ (n : Input). RanTo f i (machine k) (moves_location x.0) n (machine k')) at (rows_ran f i (machine k) x h some e (machine k') so ran.1))

  by_read : (r : Read Instr) → instr_at f i ≡ r → (end : End) (fault : Refusal) (j : Input) (k' : K) → Taken takes r i.at k end fault j k' → Turned f i (machine k) end fault j (machine k')
  by_read r e ends.OutOfMemory fault j k' did = tt
  by_read (Ok x) e ends.Refused fault j k' did =
      let ran = (does k x.0 i.at ends.Refused fault k' did.1).0 in
      rows_fault f i (machine k) x h some e fault.code (sym (fde_is (machine k).limit x.0 (state_of (machine k))) ∙ ran.1) ∙ ap (λ (n : ℕ). fails (record { code = fault.code; at = n })) (sym ran.0)
  by_read (Ok x) e ends.On fault j k' did = ran_on x e false j k' did.0 (does k x.0 i.at ends.On fault k' did.1).0
  by_read (Ok x) e ends.Moved fault j k' did = ran_on x e true j k' did.0 (does k x.0 i.at ends.Moved fault k' did.1).0
  by_read (Err r) e ends.Refused fault j k' did = rows_stuck f i (machine k) r some e ∙ ap fails did.0
  by_read (Err r) e end fault j k' did = absurd did

  pub turned : (end : End) (fault : Refusal) (j : Input) (k' : K) → Taken takes (instr_at f i) i.at k end fault j k' → Turned f i (machine k) end fault j (machine k')
  turned = by_read (instr_at f i) refl

-- ---- a CIE's program

pub in_limit : (s : Size) → address_limit s ≤ 2 ^ 64
in_limit Four = omega arith
in_limit Eight = omega arith

-- an address within a limit is within a greater one
pub in_greater_limit : (small great : ℕ) (i : Instr) → small ≤ great → InLimit small i → InLimit great i
in_greater_limit small great (SetLoc a) more within = omega (arith, more, within)
in_greater_limit small great i more within = tt

cie_is : (limit : ℕ) (i : Instr) (s : State) → program_fault true limit i s ≡ cie_fault i s.row
cie_is limit (SetLoc a) s = refl
cie_is limit i s = refl

-- of what it may hold, nothing but the row changes
only_row : (limit : ℕ) (initial : Rules) (i : Instr) (s : State) → program_fault true limit i s ≡ None → after initial i s ≡ record { row = written i s.row; stack = s.stack; location = s.location }
only_row limit initial (SetLoc a) s none = absurd cc
only_row limit initial (Advance d) s none = absurd cc
only_row limit initial (Restore r) s none = absurd cc
only_row limit initial RememberState s none = absurd cc
only_row limit initial RestoreState s none = absurd cc
only_row limit initial i s none = refl

abbrev DoesCie : Takes Rules
DoesCie row x at end fault row' = Did true x at (cie_machine row) end fault (cie_machine row')

module _ (f : Factors) (i : Input) (row : Rules) (h : AreBytes i.bytes) (some : 0 < length i.bytes) where
  wrote_on : (x : Instr × Input) → instr_at f i ≡ Ok x → (j : Input) → x.1 ≡ j → (row' : Rules) → IsAfter true (cie_machine row) x.0 (cie_machine row') → WroteTo f i row j row'
  wrote_on x e j at row' behind =
      let m = cie_machine row in
      let none = sym (cie_is m.limit x.0 (state_of m)) ∙ behind.allowed in
      let same = behind.state ∙ only_row m.limit m.initial x.0 (state_of m) behind.allowed in
      subst (λ (k : Input). WroteTo f i row k row') at (initial_wrote f i row x h some e row' none (ap (λ (t : State). t.row) same))

  by_written : (r : Read Instr) → instr_at f i ≡ r → (end : End) (fault : Refusal) (j : Input) (row' : Rules) → Taken DoesCie r i.at row end fault j row' → Entered f i row end fault j row'
  by_written r e ends.OutOfMemory fault j row' did = tt
  by_written (Ok x) e ends.Refused fault j row' did =
      initial_fault f i row x h some e fault.code (sym (cie_is (cie_machine row).limit x.0 (state_of (cie_machine row))) ∙ did.1.0.1) ∙ ap (λ (n : ℕ). Err (record { code = fault.code; at = n })) (sym did.1.0.0)
  by_written (Ok x) e ends.On fault j row' did = wrote_on x e j did.0 row' did.1.0.1
  by_written (Ok x) e ends.Moved fault j row' did = wrote_on x e j did.0 row' did.1.0.1
  by_written (Err r) e ends.Refused fault j row' did = initial_stuck f i row r some e ∙ ap Err did.0
  by_written (Err r) e end fault j row' did = absurd did

  pub entered : (end : End) (fault : Refusal) (j : Input) (row' : Rules) → Taken DoesCie (instr_at f i) i.at row end fault j row' → Entered f i row end fault j row'
  entered = by_written (instr_at f i) refl
