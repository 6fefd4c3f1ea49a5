-- The addresses of an FDE at which its rules change, and the rules there: DWARF 5, 6.4.1 and 6.4.3. An FDE is given by the
-- instructions of its CIE and of its own program, and by its range.
use Rattle.std.specs.Prelude.{◌≡◌, ℕ, suc, ◌<◌, ◌≤◌, List, [], ◌∷◌, Option, Some, None, Bool, true, false, Result, Ok, Err}
use Rattle.dw_row.specs.{Agreement.kept, Rows.Rules}
use Rattle.dw_cfa.specs.{Column.{cfa_after, rule_after}, InitialRules.{initial_cfa, initial_rule, HoldsAfter}, Location.Counts, declared.instr.Instr.Instr}
use Rattle.dw_section.specs.Table.{Section}

-- after j and after k instructions each column has the same rule
pub record SameRules (initial instrs : List Instr) (j k : ℕ) : Type 0 where
  pub cfa : cfa_after (initial_cfa initial) instrs j ≡ cfa_after (initial_cfa initial) instrs k
  pub rules : (r : ℕ) → rule_after (initial_rule initial r) instrs r j ≡ rule_after (initial_rule initial r) instrs r k

-- at two addresses each column has the same rule
abbrev pub Stays : List Instr → List Instr → ℕ → ℕ → ℕ → Type 0
Stays initial instrs begin a b = (j k : ℕ) → Counts begin instrs a j → Counts begin instrs b k → SameRules initial instrs j k

-- at two addresses some column has another rule
pub record Differs (initial instrs : List Instr) (begin a b : ℕ) : Type 0 where
  pub j : ℕ
  pub k : ℕ
  pub before : Counts begin instrs a j
  pub after : Counts begin instrs b k
  pub other : SameRules initial instrs j k → ⊥

-- from one address up to another, which is no more, the rules are those one address before
abbrev pub StayFrom : List Instr → List Instr → ℕ → ℕ → ℕ → Type 0
StayFrom initial instrs begin low high = (a : ℕ) → low ≤ a → suc a < high → Stays initial instrs begin a (suc a)

-- a row has the rules at an address
abbrev pub HoldsAt : List Instr → List Instr → ℕ → ℕ → Rules → Type 0
HoldsAt initial instrs begin a row = (k : ℕ) → Counts begin instrs a k → HoldsAfter initial instrs k row

-- behind an address and below the end the rules change at these addresses, each with its row
abbrev pub ChangesBehind : List Instr → List Instr → ℕ → ℕ → ℕ → List (ℕ × Rules) → Type 0
ChangesBehind initial instrs begin end low [] = StayFrom initial instrs begin low end
ChangesBehind initial instrs begin end low (change ∷ changes) =
    (a : ℕ) × (change.0 ≡ suc a) × (low ≤ a) × (suc a < end) × StayFrom initial instrs begin low (suc a) × Differs initial instrs begin a (suc a)
    × HoldsAt initial instrs begin (suc a) change.1 × ChangesBehind initial instrs begin end (suc a) changes

-- the changes of an FDE: its begin, and each address below its end at which a rule is not that one address before
abbrev pub AreChanges : List Instr → List Instr → ℕ → ℕ → List (ℕ × Rules) → Type 0
AreChanges initial instrs begin end [] = ⊥
AreChanges initial instrs begin end (first ∷ changes) =
    (first.0 ≡ begin) × HoldsAt initial instrs begin begin first.1 × ChangesBehind initial instrs begin end begin changes

-- ---- changes given one at a time

-- of a section, the changes still to come, the row that was shown and the one before it, and whether memory ran out
pub record Changing : Type 0 where
  pub section : Section
  pub to_come : List (ℕ × Rules)
  pub shown : Option Rules
  pub before : Option Rules
  pub failed : Bool

-- what a call answers, what is still to come then, and the row that is shown: behind the last change the one before
abbrev pub GivesChange : {E : Type 0} → Changing → Result (Option (ℕ × Rules)) E → Changing → Type 0
GivesChange old (Ok None) new = (new.failed ≡ false) × (old.to_come ≡ []) × (new.to_come ≡ []) × (new.shown ≡ old.shown)
GivesChange old (Ok (Some change)) new = (new.failed ≡ false) × (old.to_come ≡ change ∷ new.to_come) × (new.shown ≡ Some change.1)
GivesChange old (Err e) new = new.failed ≡ true

-- the same of a call that answers the address alone: the row there is the one that is shown then
abbrev pub GivesAddress : {E : Type 0} → Changing → Result (Option ℕ) E → Changing → Type 0
GivesAddress old (Ok None) new = (new.failed ≡ false) × (old.to_come ≡ []) × (new.to_come ≡ []) × (new.shown ≡ old.shown)
GivesAddress old (Ok (Some address)) new = (new.failed ≡ false) × ((row : Rules) × (old.to_come ≡ (address, row) ∷ new.to_come) × (new.shown ≡ Some row))
GivesAddress old (Err e) new = new.failed ≡ true

-- at a change the row before it is the one that was shown, and behind the last one there is none
abbrev pub before_then : {A : Type 0} → Option A → Option Rules → Option Rules
before_then None shown = None
before_then (Some change) shown = shown

-- it goes on to the next change, or stays behind the last one
abbrev pub GoesOn : Changing → Changing → Type 0
GoesOn old new = (address : Option ℕ) × GivesAddress {E = Unit {0}} old (Ok address) new × (new.before ≡ before_then address old.shown)

-- the row that is shown behind these changes, where another one was before
abbrev pub last_shown : Option Rules → List (ℕ × Rules) → Option Rules
last_shown shown [] = shown
last_shown shown (change ∷ changes) = last_shown (Some change.1) changes

-- all are given
abbrev pub behind_all : Changing → Changing
behind_all c = record { section = c.section; to_come = []; shown = last_shown c.shown c.to_come; before = None; failed = false }

-- a row without the registers that one of these changes leaves Unspecified
abbrev pub kept_by : Rules → List (ℕ × Rules) → Rules
kept_by row [] = row
kept_by row (change ∷ changes) = kept_by (kept row change.1) changes
