-- The machine that runs forwards with whole rows and a stack gives every column what looking back gives.
use Rattle.dw_row.proofs.Lent.RowLists.{put_rule, put_keeps}
use Rattle.dw_cfa.proofs.Words.{◌≡◌, ℕ, suc, Bool, true, false, cond, List, [], ◌∷◌, None, refl, sym, ap, ◌∙◌, arith, nat_eq, eqb-true, Instr, RegRule, Rules, State, Set, Restore, RememberState, RestoreState, location_back, look_back}
use Rattle.dw_cfa.proofs.Words.{CfaRule, cfa_change, rule_change, AreSpecified, rule, begun, changed, moved, popped, after, empty_fault, fde_fault}

-- The row has in every column what looking back past `inner` remember_states gives.
pub record Holds (initial : Rules) (earlier : List Instr) (inner : ℕ) (row : Rules) : Type 0 where
  pub cfa : row.cfa ≡ look_back cfa_change initial.cfa inner earlier
  pub rules : (r : ℕ) → rule row r ≡ look_back (rule_change r (rule initial r)) (rule initial r) inner earlier
  pub listed : AreSpecified 0 row.registers

-- Entry j of the stack holds what looking back past j + 1 remember_states gives.
abbrev pub StackHolds : Rules → List Instr → ℕ → List Rules → Type 0
StackHolds initial earlier j [] = Unit {0}
StackHolds initial earlier j (row ∷ stack) = Holds initial earlier j row × StackHolds initial earlier (suc j) stack

-- the state behind the instructions `earlier`, the last of them first
pub record Follows (initial : Rules) (begin : ℕ) (earlier : List Instr) (s : State) : Type 0 where
  pub row : Holds initial earlier 0 s.row
  pub stack : StackHolds initial earlier 1 s.stack
  pub location : s.location ≡ location_back begin earlier

-- ---- the row

-- looking back past a remember_state passes the instruction, and else makes its change
record Passes (i : Instr) : Type 1 where
  past : (Rule : Type 0) (change : Instr → Rule → Rule) (first : Rule) (n : ℕ) (earlier : List Instr) → look_back change first (suc n) (i ∷ earlier) ≡ look_back change first (suc n) earlier
  changes : (Rule : Type 0) (change : Instr → Rule → Rule) (first : Rule) (earlier : List Instr) → look_back change first 0 (i ∷ earlier) ≡ change i (look_back change first 0 earlier)

stack_passed : (initial : Rules) (i : Instr) → Passes i → (earlier : List Instr) (j : ℕ) (stack : List Rules) → StackHolds initial earlier (suc j) stack → StackHolds initial (i ∷ earlier) (suc j) stack
stack_passed initial i past earlier j [] h = tt
stack_passed initial i past earlier j (row ∷ stack) h =
    (record { cfa = h.0.cfa ∙ sym (past.past CfaRule cfa_change initial.cfa j earlier); rules = λ r. h.0.rules r ∙ sym (past.past RegRule (rule_change r (rule initial r)) (rule initial r) j earlier); listed = h.0.listed }, stack_passed initial i past earlier (suc j) stack h.1)

stack_remembered : (initial : Rules) (earlier : List Instr) (j : ℕ) (stack : List Rules) → StackHolds initial earlier (suc j) stack → StackHolds initial (RememberState ∷ earlier) (suc (suc j)) stack
stack_remembered initial earlier j [] h = tt
stack_remembered initial earlier j (row ∷ stack) h = (record { cfa = h.0.cfa; rules = h.0.rules; listed = h.0.listed }, stack_remembered initial earlier (suc j) stack h.1)

stack_popped : (initial : Rules) (earlier : List Instr) (j : ℕ) (stack : List Rules) → StackHolds initial earlier (suc (suc j)) stack → StackHolds initial (RestoreState ∷ earlier) (suc j) stack
stack_popped initial earlier j [] h = tt
stack_popped initial earlier j (row ∷ stack) h = (record { cfa = h.0.cfa; rules = h.0.rules; listed = h.0.listed }, stack_popped initial earlier (suc j) stack h.1)

-- an instruction that neither remembers nor restores, and has in every column the effect of its change
module _ (initial : Rules) (begin : ℕ) (i : Instr) (earlier : List Instr) (s : State) (h : Follows initial begin earlier s) where
  plain : Passes i → ((r : ℕ) → rule (changed initial i s.row) r ≡ rule_change r (rule initial r) i (rule s.row r)) → AreSpecified 0 (changed initial i s.row).registers
      → (changed initial i s.row).cfa ≡ cfa_change i s.row.cfa → moved i s.location ≡ location_back begin (i ∷ earlier)
      → Follows initial begin (i ∷ earlier) (record { row = changed initial i s.row; stack = s.stack; location = moved i s.location })
  plain past rules listed cfa location = record {
    row = record {
      cfa = cfa ∙ ap (cfa_change i) h.row.cfa ∙ sym (past.changes CfaRule cfa_change initial.cfa earlier);
      rules = λ r. rules r ∙ ap (rule_change r (rule initial r) i) (h.row.rules r) ∙ sym (past.changes RegRule (rule_change r (rule initial r)) (rule initial r) earlier);
      listed = listed;
    };
    stack = stack_passed initial i past earlier 0 s.stack h.stack;
    location = location;
  }

-- one instruction; there is something to restore
pub after_follows : (initial : Rules) (begin : ℕ) (i : Instr) (earlier : List Instr) (s : State) (limit : ℕ)
    → Follows initial begin earlier s → fde_fault limit i s ≡ None → Follows initial begin (i ∷ earlier) (after initial i s)
after_follows initial begin RememberState earlier s limit h e = record {
  row = record { cfa = h.row.cfa; rules = h.row.rules; listed = h.row.listed };
  stack = (record { cfa = h.row.cfa; rules = h.row.rules; listed = h.row.listed }, stack_remembered initial earlier 0 s.stack h.stack);
  location = h.location;
}
after_follows initial begin RestoreState earlier s limit h e = restore s.stack h.stack e
  where
    restore : (stack : List Rules) → StackHolds initial earlier 1 stack → empty_fault stack ≡ None → Follows initial begin (RestoreState ∷ earlier) (popped s stack)
    restore [] h' e' = absurd cc
    restore (top ∷ stack) h' e' = record {
      row = record { cfa = h'.0.cfa; rules = h'.0.rules; listed = h'.0.listed };
      stack = stack_popped initial earlier 0 stack h'.1;
      location = h.location;
    }
after_follows initial begin (Set q given) earlier s limit h e =
    plain initial begin (Set q given) earlier s h (record { past = λ R c x n l. refl; changes = λ R c x l. refl })
    (λ r. put_rule q given 0 s.row.registers r h.row.listed) (put_keeps q given 0 s.row.registers h.row.listed (omega arith)) refl h.location
after_follows initial begin (Restore q) earlier s limit h e =
    plain initial begin (Restore q) earlier s h (record { past = λ R c x n l. refl; changes = λ R c x l. refl })
    (λ r. put_rule q (rule initial q) 0 s.row.registers r h.row.listed ∙ restored q r (rule s.row r) (nat_eq q r) refl)
    (put_keeps q (rule initial q) 0 s.row.registers h.row.listed (omega arith)) refl h.location
  where
    restored : (q r : ℕ) (y : RegRule) (b : Bool) → nat_eq q r ≡ b → cond b (rule initial q) y ≡ cond b (rule initial r) y
    restored q r y true e = ap (rule initial) (eqb-true q r e)
    restored q r y false e = refl
after_follows initial begin i earlier s limit h e =
    let location = h.location in
    plain initial begin i earlier s h (record { past = λ R c x n l. refl; changes = λ R c x l. refl }) (λ r. refl) h.row.listed refl (cc)

-- the beginning
pub begun_follows : (initial : Rules) (begin : ℕ) → AreSpecified 0 initial.registers → Follows initial begin [] (begun initial begin)
begun_follows initial begin listed = record { row = record { cfa = refl; rules = λ r. refl; listed = listed }; stack = tt; location = refl }
