-- At each address some instructions count, and their number is one.
use Rattle.dw_cfa.proofs.Words.{◌≡◌, ◌⊎◌, ℕ, zero, suc, ◌<◌, ◌≤◌, List, length, sym, subst, arith, inl, inr, cases_lt, Instr, location, StaysAt, Counts}

-- the location stays up to n, or passes a behind a first k
scan : (begin : ℕ) (instrs : List Instr) (a n : ℕ) → begin ≤ a → StaysAt begin instrs a n ⊎ ((k : ℕ) × (k < n) × StaysAt begin instrs a k × (a < location begin instrs (suc k)))
scan begin instrs a zero le = inl (λ j lt. let first : j ≡ 0 = omega arith in rw first le)
scan begin instrs a (suc n) le = elim (scan begin instrs a n le) [
  | inl stays ↦ elim (cases_lt a (location begin instrs (suc n))) [
    | inl past ↦ inr (n, omega arith, stays, past)
    | inr within ↦ inl (λ j lt. elim (cases_lt j (suc n)) [
      | inl less ↦ stays j (omega arith)
      | inr more ↦ let e : j ≡ suc n = omega arith in subst (λ (m : ℕ). location begin instrs m ≤ a) (sym e) within
    ])
  ]
  | inr found ↦ inr (found.0, omega (arith, found.1), found.2, found.3)
]

-- at each address from begin on some instructions count
pub counts_exists : (begin : ℕ) (instrs : List Instr) (a : ℕ) → begin ≤ a → (k : ℕ) × Counts begin instrs a k
counts_exists begin instrs a le = elim (scan begin instrs a (length instrs) le) [
  | inl stays ↦ (length instrs, record { in_program = omega arith; stays = stays; greatest = λ n lt all. lt })
  | inr found ↦ (
    found.0,
    record {
      in_program = omega (arith, found.1);
      stays = found.2;
      greatest = λ n lt all. elim (cases_lt found.0 n) [
        | inl more ↦ let within : location begin instrs (suc found.0) ≤ a = all (suc found.0) (omega arith) in absurd (omega (arith, found.3))
        | inr less ↦ less
      ];
    },
  )
]

pub one_count : (begin : ℕ) (instrs : List Instr) (a j k : ℕ) → Counts begin instrs a j → Counts begin instrs a k → j ≡ k
one_count begin instrs a j k v w = omega (arith, v.greatest k w.in_program w.stays, w.greatest j v.in_program v.stays)
