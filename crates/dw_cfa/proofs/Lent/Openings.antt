-- The columns at the begin, where the first instructions of a program tell the row there; and what is specified first stays so.
use Rattle.dw_cfa.specs.declared.opening.FirstRow.{FirstRow}
use Rattle.dw_cfa.proofs.Words.{◌≡◌, ℕ, zero, suc, ◌+◌, ◌<◌, ◌≤◌, Bool, true, false, List, [], ◌∷◌, Option, Some, None, refl, ap, ◌∙◌, arith, IsTrue, nat_eq, nat_lt, if◌then◌else◌, ℤ, AllByRecursion, ltb-true, Target, Factors, Instr, Nop}
use Rattle.dw_cfa.proofs.Words.{Advance, DefCfaOffset, Set, Restore, RememberState, RestoreState, Initial, CfaOffset, Other, CfaRule, RegRule, look_back, cfa_with, cfa_change, rule_change, cfa_after, rule_after, ProgramSpells, onto}
use Rattle.dw_cfa.proofs.{Words.{back_from, location_back, Counts, moves_first, first_row, row_with, is_specified, CountsFrom}, Lent.{RowsAt.{counts_rest, first_counts}, Spellings.{by_table, IsSpelled}}}
use Rattle.dw_row.specs.declared.rule.RegRule.TheVariants as rules

-- no instruction gives the rule Unspecified
abbrev GivesRule : Instr → Type 0
GivesRule (Set r given) = IsTrue (is_specified given)
GivesRule i = Unit {0}

spells_rule : (t : Target) (f : Factors) (i : Instr) (b : List ℕ) → IsSpelled t f i b → GivesRule i
spells_rule t f (Set r rules.Unspecified) b h = absurd h
spells_rule t f (Set r given) b h = refl
spells_rule t f i b h = tt

-- ---- the columns at the begin

chosen : (b : Bool) (x y z : FirstRow) → (if b then x else y) ≡ z → (y ≡ z → ⊥) → (b ≡ true) × (x ≡ z)
chosen true x y z e never = (refl, e)
chosen false x y z e never = absurd (never e)

pub initial_moves : (instrs : List Instr) → first_row instrs ≡ Initial → moves_first instrs ≡ true
initial_moves [] first = refl
initial_moves (Nop ∷ instrs) first = initial_moves instrs first
initial_moves (Advance delta ∷ instrs) first = (chosen (nat_lt 0 delta) Initial Other Initial first (λ e. cc)).0
initial_moves (DefCfaOffset n ∷ instrs) first = let own = (chosen (moves_first instrs) (CfaOffset n) Other Initial first (λ e. cc)).1 in absurd cc
initial_moves (i ∷ instrs) first = absurd cc

module _ {Rule : Type 0} (change : Instr → Rule → Rule) (initial : Rule) (keeps : (old : Rule) → change Nop old ≡ old) (begin : ℕ) where
  held : (earlier instrs : List Instr) (k : ℕ) → location_back begin earlier ≡ begin → moves_first instrs ≡ true → ((j : ℕ) → j ≤ k → location_back begin (onto earlier instrs j) ≤ begin)
      → look_back change initial 0 (onto earlier instrs k) ≡ look_back change initial 0 earlier
  held earlier instrs zero at moves stays = refl
  held earlier [] (suc k) at moves stays = refl
  held earlier (Nop ∷ instrs) (suc k) at moves stays = held (Nop ∷ earlier) instrs k at moves (λ j le. stays (suc j) (omega (arith, le))) ∙ keeps (look_back change initial 0 earlier)
  held earlier (Advance delta ∷ instrs) (suc k) at moves stays =
      let past : location_back begin earlier + delta ≤ begin = stays 1 (omega arith) in
      let more : 0 < delta = ltb-true 0 delta moves in
      absurd (omega (arith, past, at, more))
  held earlier (i ∷ instrs) (suc k) at moves stays = absurd cc

  offset_held : (n : ℤ) (earlier instrs : List Instr) (k : ℕ) → location_back begin earlier ≡ begin → first_row instrs ≡ CfaOffset n → CountsFrom begin earlier instrs begin k
      → look_back change initial 0 (onto earlier instrs k) ≡ change (DefCfaOffset n) (look_back change initial 0 earlier)
  offset_held n earlier [] k at first counts = absurd cc
  offset_held n earlier (Nop ∷ instrs) zero at first counts = absurd (omega (arith, first_counts begin begin Nop earlier instrs 0 (omega (arith, at)) (omega (arith, at)) counts))
  offset_held n earlier (Nop ∷ instrs) (suc k) at first counts =
      offset_held n (Nop ∷ earlier) instrs k at first (counts_rest begin begin Nop earlier instrs k (omega (arith, at)) counts) ∙ ap (change (DefCfaOffset n)) (keeps (look_back change initial 0 earlier))
  offset_held n earlier (DefCfaOffset m ∷ instrs) zero at first counts = absurd (omega (arith, first_counts begin begin (DefCfaOffset m) earlier instrs 0 (omega (arith, at)) (omega (arith, at)) counts))
  offset_held n earlier (DefCfaOffset m ∷ instrs) (suc k) at first counts =
      let c = chosen (moves_first instrs) (CfaOffset m) Other (CfaOffset n) first (λ e. cc) in
      let one : m ≡ n = let same = c.1 in cc in
      held (DefCfaOffset m ∷ earlier) instrs k at c.0 (λ j le. counts.stays (suc j) (omega (arith, le))) ∙ ap (λ (z : ℤ). change (DefCfaOffset z) (look_back change initial 0 earlier)) one
  offset_held n earlier (Advance delta ∷ instrs) k at first counts = let own = (chosen (nat_lt 0 delta) Initial Other (CfaOffset n) first (λ e. cc)).1 in absurd cc
  offset_held n earlier (i ∷ instrs) k at first counts = absurd cc

  -- what this offset of the CFA makes of a rule
  abbrev with_first : Option ℤ → Rule
  with_first None = initial
  with_first (Some n) = change (DefCfaOffset n) initial

  at_first : (offset : Option ℤ) (instrs : List Instr) (k : ℕ) → first_row instrs ≡ row_with offset → Counts begin instrs begin k → look_back change initial 0 (back_from instrs k) ≡ with_first offset
  at_first None instrs k first counts = held [] instrs k refl (initial_moves instrs first) counts.stays
  at_first (Some n) instrs k first counts = offset_held n [] instrs k refl first (record { in_program = counts.in_program; stays = counts.stays; greatest = counts.greatest })

pub first_cfa : (initial : CfaRule) (begin : ℕ) (offset : Option ℤ) (instrs : List Instr) (k : ℕ) → first_row instrs ≡ row_with offset → Counts begin instrs begin k → cfa_after initial instrs k ≡ cfa_with offset initial
first_cfa initial begin None instrs k first counts = at_first cfa_change initial (λ old. refl) begin None instrs k first counts
first_cfa initial begin (Some n) instrs k first counts = at_first cfa_change initial (λ old. refl) begin (Some n) instrs k first counts

pub first_rule : (initial : RegRule) (begin : ℕ) (offset : Option ℤ) (instrs : List Instr) (r k : ℕ) → first_row instrs ≡ row_with offset → Counts begin instrs begin k → rule_after initial instrs r k ≡ initial
first_rule initial begin None instrs r k first counts = at_first (rule_change r initial) initial (λ old. refl) begin None instrs k first counts
first_rule initial begin (Some n) instrs r k first counts = at_first (rule_change r initial) initial (λ old. refl) begin (Some n) instrs k first counts

-- ---- a register that is specified stays so

abbrev pub AllSet : List Instr → Type 0
AllSet instrs = AllByRecursion GivesRule instrs

pub all_set : (t : Target) (f : Factors) (instrs : List Instr) (bytes : List ℕ) → ProgramSpells t f instrs bytes → AllSet instrs
all_set t f [] bytes p = tt
all_set t f (i ∷ instrs) bytes p = (spells_rule t f i p.front (by_table t f i p.front p.first), all_set t f instrs p.back p.second)

onto_set : (earlier instrs : List Instr) (k : ℕ) → AllSet earlier → AllSet instrs → AllSet (onto earlier instrs k)
onto_set earlier instrs zero h all = h
onto_set earlier [] (suc k) h all = h
onto_set earlier (i ∷ instrs) (suc k) h all = onto_set (i ∷ earlier) instrs k (all.0, h) all.1

module _ (r : ℕ) (initial : RegRule) (some : IsTrue (is_specified initial)) where
  abbrev IsSome : RegRule → Type 0
  IsSome given = IsTrue (is_specified given)

  either : (b : Bool) (x y : RegRule) → IsSome x → IsSome y → IsSome (if b then x else y)
  either true x y h g = h
  either false x y h g = g

  looked : (inner : ℕ) (earlier : List Instr) → AllSet earlier → IsSome (look_back (rule_change r initial) initial inner earlier)
  looked inner [] h = some
  looked zero (RestoreState ∷ earlier) h = looked 1 earlier h.1
  looked zero (Set q given ∷ earlier) h = either (nat_eq q r) given _ h.0 (looked zero earlier h.1)
  looked zero (Restore q ∷ earlier) h = either (nat_eq q r) initial _ some (looked zero earlier h.1)
  looked zero (i ∷ earlier) h = looked zero earlier h.1
  looked (suc inner) (RestoreState ∷ earlier) h = looked (suc (suc inner)) earlier h.1
  looked (suc inner) (RememberState ∷ earlier) h = looked inner earlier h.1
  looked (suc inner) (i ∷ earlier) h = looked (suc inner) earlier h.1

  pub stays_specified : (instrs : List Instr) (k : ℕ) → AllSet instrs → IsSome (rule_after initial instrs r k)
  stays_specified instrs k all = looked 0 (back_from instrs k) (onto_set [] instrs k tt all)
