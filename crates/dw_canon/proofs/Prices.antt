-- What a member of a section takes in the normal form, and its group's CIE, against the programs of its FDE.
use Rattle.dw_section.proofs.Lent.{OneLengths.one_lengths, Sections.here}
use Rattle.dw_canon.proofs.Words.{ℕ, ◌+◌, ◌*◌, ◌<◌, ◌≤◌, List, ◌∷◌, length, inl, inr, arith, AllByRecursion, Target, AreBytes, Instr, Rules, blank, counts_exists, Accepted, HasLengths, RowFits, changes_programs, Held, held_all}
use Rattle.dw_canon.proofs.{Words.{rules, least_starts, cie_instrs, fde_instrs, RestsOn, initial_row, Member, IsMember, fde_of, changes_of, program_bytes, factors_of}, Costs.bytes_more, Lent.MemberPlaces.all_both}
use Rattle.dw_canon.proofs.{Lent.Shared.{MemberFits, initial_fits, initial_or, initial_cfa_or}, Sums.sum_more, Weights.{rule_weight, cfa_weight, program_most}, Within.{all_len, IsWithin, holds_within, step_len, later_len}}

-- the rows of a member are within what its programs give, and its changes are no more than they start rows
pub record IsPriced (t : Target) (m : Member) (own initial : ℕ) : Type 0 where
  pub i : List Instr
  pub j : List Instr
  pub first : IsWithin t i j m.first
  pub later : AllByRecursion (λ (change : ℕ × Rules). IsWithin t i j change.1) m.later
  pub few : 6 * length (changes_of m) + all_len t i j ≤ 6 * (own + initial) + 6

pub is_priced : (t : Target) (s : List ℕ) → AreBytes s → Accepted t s → (m : Member) (own initial : ℕ) → IsMember t s m → MemberFits t m → m.begin < m.end → HasLengths t s (fde_of m) own initial → IsPriced t m own initial
is_priced t s b ok m own initial is fits some lengths =
    let p = changes_programs t s b ok (fde_of m) (changes_of m) is in
    let i = p.0 in
    let j = p.1 in
    let x = here t s b ok m.begin m.end i j p.2 in
    let gi = program_most t (factors_of x.spelled.head) i x.spelled.head.program.bytes x.spelled.begins.spelled in
    let gj = program_most t (factors_of x.spelled.head) j x.head.program.bytes x.spelled.spelled in
    let are = one_lengths t s b ok (fde_of m) i j own initial some p.2 lengths in
    let each : (change : ℕ × Rules) → Held i j m.begin m.end change → RowFits t change.1 → IsWithin t i j change.1 = λ change held fit.
    let c = counts_exists m.begin j change.0 held.0 in
    holds_within t i j c.0 change.1 fit (held.2 c.0 c.1) in
    let all = all_both (Held i j m.begin m.end) (λ (change : ℕ × Rules). RowFits t change.1) (λ (change : ℕ × Rules). IsWithin t i j change.1) (changes_of m) each (held_all i j m.begin m.end (changes_of m) some p.3) fits in
    record {
      i = i;
      j = j;
      first = all.0;
      later = all.1;
      few = omega (arith, gi, gj, are.0, are.1, least_starts t s b ok m.begin m.end i j (changes_of m) some p.2 p.3, sum_more (rule_weight t) i j, sum_more (cfa_weight t) i j);
    }

module _ (t : Target) (m : Member) (own initial : ℕ) (h : IsPriced t m own initial) where
  -- the FDE's program
  pub fde_len : (row : Rules) → RestsOn row m.first → length (program_bytes t (fde_instrs row m)) ≤ length (changes_of m) * (23 + all_len t h.i h.j)
  fde_len row rests = search (rules, bytes_more, step_len, later_len)

  -- the program of the CIE of a group that begins with it
  pub cie_len : (ms : List Member) → AllByRecursion (MemberFits t) (m ∷ ms) → length (program_bytes t (cie_instrs (initial_row (m ∷ ms)))) ≤ 14 + all_len t h.i h.j
  cie_len ms fits =
      let row = initial_row (m ∷ ms) in
      let within : IsWithin t h.i h.j row = record {
        fits = initial_fits t (m ∷ ms) fits;
        cfa = elim (initial_cfa_or m ms) [ inl none ↦ rw none (omega arith) | inr same ↦ rw same (h.first.cfa) ];
        rules = λ r. elim (initial_or t m ms fits r) [ inl none ↦ rw none (omega arith) | inr same ↦ rw same (h.first.rules r) ];
      } in
      step_len t h.i h.j blank blank row (λ r e. omega arith) within
