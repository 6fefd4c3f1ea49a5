-- The normal form has the same bytes by any tests that tell equal rules, by any function that gives each list of operations its
-- least block, and by any that gives each return address register the row that its FDEs share.
use Rattle.dw_canon.proofs.Words.{rules, ◌≡◌, ℕ, ◌+◌, Bool, List, [], ◌∷◌, length, map, refl, sym, ap, ◌∙◌, ◌↔◌, ◌==◌, IsTrue, if◌then◌else◌, AllByRecursion, flat_map, AreBytes, Target, Op, LeastBlock, least_block, Instr}
use Rattle.dw_canon.proofs.Words.{CfaRule, RegRule, same_cfa, same_rule, cfa_tells, rule_tells, Rules, Accepted, return_registers, group, IsShared, initial_of, cie_instrs, cie_bytes, cie_at, fde_bytes, canon, InstrFits}
use Rattle.dw_canon.proofs.Words.{MemberStands, Member, AreMembers, IsNormalForm, written, cie_field_bytes}
use Rattle.dw_op.proofs.Lent.LeastOne.{least_block_only}
use Rattle.dw_canon.specs.{Canon.{canon as canon_with}, Spelling.program_bytes}
use Rattle.dw_canon.proofs.Lent.{Shared.{MemberFits, shared_is}, Blocks.same_program, InstrFits.{cie_fits, member_fits, with_all}, MemberPlaces.{all_initial, all_some, all_to, group_fits}, Rendered.{fits, stand}, Tests.{same_cie, same_fde}}
use Rattle.dw_canon.specs.Canon as form

-- the tests, the blocks and the initial rows are given
module _ (t : Target) (ms : List Member) (all : AllByRecursion (MemberFits t) ms)
    (test_cfa : CfaRule → CfaRule → Bool) (tells_cfa : (a b : CfaRule) → IsTrue (test_cfa a b) ↔ (a ≡ b))
    (test_rule : RegRule → RegRule → Bool) (tells_rule : (a b : RegRule) → IsTrue (test_rule a b) ↔ (a ≡ b))
    (block : List Op → List ℕ) (least : (ops : List Op) (bytes : List ℕ) → LeastBlock t ops bytes → block ops ≡ bytes) (initial : ℕ → Rules) where
  -- a return address register's FDEs have their initial row
  abbrev HasOwn : ℕ → Type 0
  HasOwn r = initial r ≡ initial_of ms r

  -- a program by the given tests and blocks, and by ours
  same_spelled : (given own : List Instr) → given ≡ own → AllByRecursion (InstrFits t) own → program_bytes block t given ≡ program_bytes (least_block t) t own
  same_spelled given own e h = ap (program_bytes block t) e ∙ same_program t block least own h

  same_cie_bytes : (r : ℕ) → HasOwn r → form.cie_bytes test_cfa test_rule block initial t r ≡ cie_bytes t ms r
  same_cie_bytes r own =
      let fits = group_fits t ms r all in
      ap (λ (row : Rules). written t (cie_field_bytes t r) (program_bytes block t (form.cie_instrs test_cfa test_rule row))) own
      ∙ ap (written t (cie_field_bytes t r))
      (same_spelled (form.cie_instrs test_cfa test_rule (initial_of ms r)) (cie_instrs (initial_of ms r)) (same_cie test_cfa tells_cfa test_rule tells_rule (initial_of ms r)) (cie_fits t (initial_of ms r) fits))

  same_cies : (rs : List ℕ) → AllByRecursion HasOwn rs → flat_map (form.cie_bytes test_cfa test_rule block initial t) rs ≡ flat_map (cie_bytes t ms) rs
  same_cies [] own = refl
  same_cies (r ∷ rs) own = search (rules, same_cie_bytes r own.0, same_cies rs own.1)

  same_at : (at : ℕ) (rs : List ℕ) (register : ℕ) → AllByRecursion HasOwn rs → form.cie_at test_cfa test_rule block initial t at rs register ≡ cie_at t ms at rs register
  same_at at [] register own = refl
  same_at at (r ∷ rs) register own =
      ap (λ (b : List ℕ). if r == register then at else form.cie_at test_cfa test_rule block initial t (at + length b) rs register) (same_cie_bytes r own.0)
      ∙ ap (λ (n : ℕ). if r == register then at else n) (same_at (at + length (cie_bytes t ms r)) rs register own.1)

  module _ (owns : AllByRecursion HasOwn (return_registers ms)) where
    same_fde_bytes : (m : Member) → HasOwn m.register → MemberStands t (initial_of ms m.register) m → form.fde_bytes test_cfa test_rule block initial t ms m ≡ fde_bytes t ms m
    same_fde_bytes m own stands = search (rules, initial_of ms m.register, written, program_bytes, same_at, same_spelled, same_fde, member_fits, group_fits)

    same_fdes : (xs : List Member) → AllByRecursion (λ (m : Member). HasOwn m.register) xs
        → AllByRecursion (λ (m : Member). MemberStands t (initial_of ms m.register) m) xs → flat_map (form.fde_bytes test_cfa test_rule block initial t ms) xs ≡ flat_map (fde_bytes t ms) xs
    same_fdes [] own h = refl
    same_fdes (m ∷ xs) own h = search (rules, same_fde_bytes m own.0 h.0, same_fdes xs own.1 h.1)

  registers_own : (xs : List Member) → AllByRecursion (λ (m : Member). HasOwn m.register) xs → AllByRecursion HasOwn (map (λ (m : Member). m.register) xs)
  registers_own [] h = tt
  registers_own (m ∷ xs) h = (h.0, registers_own xs h.1)

  pub same_canon : AllByRecursion (λ (m : Member). HasOwn m.register) ms → AllByRecursion (λ (m : Member). MemberStands t (initial_of ms m.register) m) ms
      → form.canon test_cfa test_rule block initial t ms ≡ canon t ms
  unfolding canon_with
  same_canon own h = search (rules, with_all HasOwn (map (λ (m : Member). m.register) ms) [] (registers_own ms own) tt, same_cies, same_fdes)

own_rows : (t : Target) (ms xs : List Member) (initial : ℕ → Rules) → AllByRecursion (MemberFits t) ms → AllByRecursion (λ (m : Member). IsShared (group m.register ms) (initial m.register)) xs
    → AllByRecursion (λ (m : Member). initial m.register ≡ initial_of ms m.register) xs
own_rows t ms xs initial all h = search (rules, all_to, shared_is, all_some)

-- a normal form is the one of the code
pub whole_is : (t : Target) (s n : List ℕ) → AreBytes s → (h : IsNormalForm t s n) → n ≡ canon t h.members
whole_is t s n b h =
    let all = fits t s b h.accepted h.members h.are in
    h.whole ∙ same_canon t h.members all h.same_cfa h.tells_cfa h.same_rule h.tells_rule h.block h.least h.initial
    (own_rows t h.members h.members h.initial all h.shared) (stand t s b h.accepted h.members h.are)

own_self : (ms xs : List Member) → AllByRecursion (λ (m : Member). initial_of ms m.register ≡ initial_of ms m.register) xs
own_self ms [] = tt
own_self ms (m ∷ xs) = (refl, own_self ms xs)

-- and that one is a normal form
pub is_normal : (t : Target) (s : List ℕ) (ms : List Member) → AreBytes s → Accepted t s → AreMembers t s ms → IsNormalForm t s (canon t ms)
is_normal t s ms b ok are =
    let all = fits t s b ok ms are in
    let blocks : (ops : List Op) (bytes : List ℕ) → LeastBlock t ops bytes → least_block t ops ≡ bytes = λ ops bytes h. sym (least_block_only t ops bytes h) in
    record {
      accepted = ok;
      members = ms;
      are = are;
      same_cfa = same_cfa;
      tells_cfa = cfa_tells;
      same_rule = same_rule;
      tells_rule = rule_tells;
      block = least_block t;
      least = blocks;
      initial = initial_of ms;
      shared = all_initial t ms all;
      whole = sym (same_canon t ms all same_cfa cfa_tells same_rule rule_tells (least_block t) blocks (initial_of ms) (own_self ms ms) (stand t s b ok ms are));
    }
