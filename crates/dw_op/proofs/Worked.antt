-- Worked faults of operands and branches.
use Rattle.dw_num.specs.declared.refusal.Code as codes
use Rattle.dw_op.proofs.Words.{◌≡◌, ℕ, zero, suc, List, [], ◌∷◌, Option, Some, None, Result, Ok, Err, refl, subst, ◌∙◌, inl, inr, arith, w16, ints, Truncated, NumberTooLarge, RegisterTooLarge}
use Rattle.dw_op.proofs.Words.{BadDerefSize, BadBranch, Refusal, Target, Four, Little, Input, FixedSigned, fixed_at, take_at, uleb_at, sleb_at, register_at, Bra, Const, Reg, Dup, StackValue}
use Rattle.dw_op.proofs.{Words.{Location, Code, AnyTwo, displacement, Displaced, OpForm, none, form_of, form_at, BlockFault, Leads}, Lent.ReadingLaws.some_is, Lent.Spellings.in_table}

abbrev narrow : Target
narrow = record { size = Four; order = Little }

-- the operand bytes of a code at place 0
abbrev behind_code : List ℕ → Input
behind_code bytes = record { at = 1; bytes = bytes; target = narrow }

abbrev at_end : ℕ → Input
at_end place = record { at = place; bytes = []; target = narrow }

-- past the fields behind a code, where it is an operation's
abbrev past_fields : Option OpForm → Input → Option (Result Input Refusal)
past_fields None i = None
past_fields (Some form) i = Some (form_at form i)

-- what stands behind a code is refused at a place, or ends there
abbrev Refused : ℕ → List ℕ → codes.Code → ℕ → Type 0
Refused code bytes why place = past_fields (form_of narrow code) (behind_code bytes) ≡ Some (Err (record { code = why; at = place }))

abbrev Ends : ℕ → List ℕ → ℕ → Type 0
Ends code bytes place = past_fields (form_of narrow code) (behind_code bytes) ≡ Some (Ok (at_end place))

-- addr with three of its four bytes, bregx of register 200 with an offset that does not end, implicit_value of five bytes of which two stand there, and breg31, which has an offset
cut_short : Refused 0x03 (1 ∷ 2 ∷ 3 ∷ []) Truncated 1 × Refused 0x92 (0xc8 ∷ 0x01 ∷ 0x80 ∷ []) Truncated 3 × Refused 0x9e (5 ∷ 1 ∷ 2 ∷ []) Truncated 2 × Refused 0x8f [] Truncated 1
unfolding form_of take_at register_at uleb_at sleb_at
cut_short = (refl, refl, refl, refl)

-- deref_size of 0 and of 5 bytes, bregx of register 65536, and constu of 2 ^ 64
too_large : Refused 0x94 (0 ∷ []) BadDerefSize 1 × Refused 0x94 (5 ∷ []) BadDerefSize 1 × Refused 0x92 (0x80 ∷ 0x80 ∷ 0x04 ∷ []) RegisterTooLarge 1 × Refused 0x10 (0x80 ∷ 0x80 ∷ 0x80 ∷ 0x80 ∷ 0x80 ∷ 0x80 ∷ 0x80 ∷ 0x80 ∷ 0x80 ∷ 0x02 ∷ []) NumberTooLarge 1
unfolding form_of fixed_at register_at uleb_at
too_large = (refl, refl, refl, refl)

-- deref_size of 4 bytes, and bregx of register 200 with an offset
read_whole : Ends 0x94 (4 ∷ []) 2 × Ends 0x92 (0xc8 ∷ 0x01 ∷ 0x7f ∷ []) 4
unfolding form_of fixed_at register_at uleb_at sleb_at
read_whole = (refl, refl)

-- lit0, reg31, dup and stack_value have nothing; there is no 0x18
with_nothing : (form_of narrow 0x30 ≡ Some (none (Const 0))) × (form_of narrow 0x6f ≡ Some (none (Reg 31))) × (form_of narrow 0x12 ≡ Some (none Dup)) × (form_of narrow 0x9f ≡ Some (none StackValue)) × (form_of narrow 0x18 ≡ None)
unfolding form_of
with_nothing = (refl, refl, refl, refl, refl)

-- ---- branches

-- bra by 0 leads to the end
to_end : Leads narrow ((0x28 ∷ 0 ∷ 0 ∷ []) ∷ []) 0
to_end part there branch = (1, (omega arith, 0x28, subst (λ (b : List ℕ). Code 0x28 (FixedSigned Little w16 (displacement ((0x28 ∷ 0 ∷ 0 ∷ []) ∷ []) 0 1)) b) (some_is (0x28 ∷ 0 ∷ 0 ∷ []) part there) (record { rest = 0 ∷ 0 ∷ []; operands = record { bytes = refl; fits = omega (arith, ints) }; whole = refl })))

-- bra by 1 at the end of a block leads nowhere
one_past : BlockFault Location narrow (0x28 ∷ 1 ∷ 0 ∷ []) (record { code = BadBranch; at = 0 })
one_past =
    inr (record {
      parts = (0x28 ∷ 1 ∷ 0 ∷ []) ∷ [];
      whole = refl;
      each = ((Bra 0, in_table narrow (Bra 0) (0x28 ∷ 1 ∷ 0 ∷ []) is_branch, refl), tt);
      bad = 0;
      nowhere = λ leads. let l = leads (0x28 ∷ 1 ∷ 0 ∷ []) refl (inl is_branch) in nothing l.0 l.1;
      first = λ k lt. absurd (omega arith);
      is = refl;
    })
  where
    is_branch : Code 0x28 AnyTwo (0x28 ∷ 1 ∷ 0 ∷ [])
    is_branch = record { rest = 1 ∷ 0 ∷ []; operands = (1, 0, omega arith, omega arith, refl); whole = refl }

    same_rest : (code other : ℕ) (rest more : List ℕ) → code ∷ rest ≡ other ∷ more → rest ≡ more
    same_rest code other rest more e = cc

    nothing : (i : ℕ) → Displaced Little ((0x28 ∷ 1 ∷ 0 ∷ []) ∷ []) 0 (Some i) (0x28 ∷ 1 ∷ 0 ∷ []) → ⊥
    nothing zero d =
        let two : 1 ∷ 0 ∷ [] ≡ 0xfd ∷ 0xff ∷ [] = same_rest 0x28 d.1 (1 ∷ 0 ∷ []) d.2.rest d.2.whole ∙ d.2.operands.bytes in
        absurd cc
    nothing (suc zero) d =
        let two : 1 ∷ 0 ∷ [] ≡ 0 ∷ 0 ∷ [] = same_rest 0x28 d.1 (1 ∷ 0 ∷ []) d.2.rest d.2.whole ∙ d.2.operands.bytes in
        absurd cc
    nothing (suc (suc i)) d = absurd (omega (arith, d.0))
