-- What a profile bars is known, and its forms are those that the profile does not allow.
use Rattle.std.proofs.Common.{not}
use Rattle.dw_op.proofs.Words.{◌≡◌, ℕ, ◌⊎◌, true, false, Some, None, Option, refl, arith, rules, inl, inr, subst, nat_tests, cases_Bool, NotInFrame, fault, Target, Input, Profile, Frame, Location, OpForm, op_form_table, form_of, in_range}
use Rattle.dw_op.proofs.{Words.{form_in_frame, judged}, Lent.ReadingLaws.{looked_up, some_is, range_is, above}}
use Rattle.dw_op.specs.Inner.FrontOp.{is_barred}

-- a form is barred with its code
abbrev Tells : OpForm → ℕ → Type 0
Tells form code = is_barred Frame code ≡ not (form_in_frame form)

module _ (t : Target) (code : ℕ) where
  tells : (form : OpForm) → form_of t code ≡ Some form → Tells form code
  unfolding form_of
  tells form e = elim (cases_Bool (in_range 0x30 0x50 code)) [
    | inl y ↦ subst (λ (f : OpForm). Tells f code) (some_is _ form (rw y at e)) (let r = range_is 0x30 0x50 code y in grind (arith, nat_tests))
    | inr n ↦ let e1 = rw n at e in elim (cases_Bool (in_range 0x50 0x70 code)) [
      | inl y ↦ subst (λ (f : OpForm). Tells f code) (some_is _ form (rw y at e1)) (rw y refl)
      | inr m ↦ let e2 = rw m at e1 in elim (cases_Bool (in_range 0x70 0x90 code)) [
        | inl y ↦ subst (λ (f : OpForm). Tells f code) (some_is _ form (rw y at e2)) (let r = range_is 0x70 0x90 code y in grind (arith, nat_tests))
        | inr k ↦ looked_up Tells (op_form_table t) code form (search rules) (rw k at e2)
      ]
    ]
  ]

  which : is_barred Frame code ≡ true → in_range 0x50 0x70 code ≡ false
      → (code ≡ 0x90) ⊎ ((code ≡ 0x91) ⊎ ((code ≡ 0x93) ⊎ ((code ≡ 0x97) ⊎ ((code ≡ 0x9c) ⊎ ((code ≡ 0x9d) ⊎ ((code ≡ 0x9e) ⊎ (code ≡ 0x9f)))))))
  which e n = grind (arith, nat_tests)

  pub passed : (profile : Profile) (at : ℕ) (i : Input) → is_barred profile code ≡ false → judged profile at (form_of t code) i ≡ judged Location at (form_of t code) i
  passed Location at i e = refl
  passed Frame at i e = of (form_of t code) refl
    where
      of : (o : Option OpForm) → form_of t code ≡ o → judged Frame at o i ≡ judged Location at o i
      of None is = refl
      of (Some form) is = let h = tells form is in elim (cases_Bool (form_in_frame form)) [ inl y ↦ rw y refl | inr n ↦ let no = rw (n, e) at h in absurd cc ]

  pub barred : (profile : Profile) (at : ℕ) (i : Input) → is_barred profile code ≡ true → judged profile at (form_of t code) i ≡ fault NotInFrame at
  unfolding form_of
  barred Location at i e = absurd cc
  barred Frame at i e = elim (cases_Bool (in_range 0x50 0x70 code)) [
    | inl y ↦ let r = range_is 0x50 0x70 code y in rw (above 0x30 0x50 code (omega arith) r.0, y) refl
    | inr n ↦ elim (which e n) [
      | inl h ↦ rw h refl
      | inr (inl h) ↦ rw h refl
      | inr (inr (inl h)) ↦ rw h refl
      | inr (inr (inr (inl h))) ↦ rw h refl
      | inr (inr (inr (inr (inl h)))) ↦ rw h refl
      | inr (inr (inr (inr (inr (inl h))))) ↦ rw h refl
      | inr (inr (inr (inr (inr (inr (inl h)))))) ↦ rw h refl
      | inr (inr (inr (inr (inr (inr (inr h)))))) ↦ rw h refl
    ]
  ]
