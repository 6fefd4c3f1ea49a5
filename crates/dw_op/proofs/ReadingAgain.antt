-- What is spelled is read.
use Rattle.dw_op.proofs.Words.{◌≡◌, ℕ, ◌+◌, true, List, ◌∷◌, ◌++◌, length, Some, None, refl, sym, ap, ◌∙◌, arith, le-leb, Again, again-then, take_again, byte_again, address_again, Target, byte_count, cast_unsigned, Input, Read, uleb_at}
use Rattle.dw_op.proofs.Words.{◌>>=◌, uleb_again, register_again, sleb_again, fixed_at_again, Op, Profile, Step, Plain, Jump, FieldSpells, OpFormSpells, branch_target, StepSpells, step_in_frame, step_allowed, Field, FieldValue, OpForm}
use Rattle.dw_op.proofs.{Words.{form_of, form_in_frame, counted_in, value_at, with_op, then_value, step_of, step_at, byte_len}, Signed.back, Lent.ReadingLaws.{Makes, form_known, form_framed, allowed_by, StepForm}}
use Rattle.dw_op.specs.declared.operation.Branch.TheVariants.{Bra, Skip}
use Rattle.dw_op.specs.declared.op.Op.TheVariants as ops
use Rattle.dw_op.specs.Operands as fields

module _ (t : Target) where
  -- ---- the fields of a form

  value_again : (o : Field) (x : FieldValue o) (b : List ℕ) → FieldSpells t o x b → Again t (value_at o) x b
  value_again (fields.fixed n) x b s at rest = fixed_at_again n at t x b rest s
  value_again (fields.twos w) z b s at rest =
      let c = back w z s.fits in
      rw (fixed_at_again (byte_len w) at t (cast_unsigned w z) b rest (record { bytes = s.bytes; fits = c.1 }), c.0) refl
  value_again fields.address x b s at rest = address_again t x b s at rest
  value_again fields.unsigned x b s at rest = uleb_again at t x b rest s
  value_again fields.signed x b s at rest = sleb_again at t x b rest s
  value_again fields.register x b s at rest = register_again at t x b rest s
  value_again fields.size k b s at rest = rw (fixed_at_again 1 at t k b rest s.0, le-leb 1 k s.1, le-leb k (byte_count t.size) s.2) refl
  value_again fields.block x b s at rest =
      rw s.whole (again-then t uleb_at counted_in (length x) x s.front s.back (λ at rest. uleb_again at t (length x) s.front rest s.first) (rw s.second (take_again t (length x) x refl)) at rest)

  op_again : {X : Type 0} (read : Input → Read X) (make : X → Op) (x : X) (b : List ℕ) → Again t read x b → Again t (λ i. read i >>= with_op make) (Plain (make x)) b
  op_again read make x b first at rest = rw (first at rest) refl

  form_again : (form : OpForm) (step : Step) (b : List ℕ) → StepForm t form step b → Again t (step_of form) step b
  form_again (fields.none made) step b (op, is, (same, nil)) at rest = let place : at + 0 ≡ at = omega arith in rw (is, same, nil, place) refl
  form_again (fields.one o make) step b (op, is, (x, same, s)) at rest = rw (is, same) (op_again (value_at o) make x b (value_again o x b s) at rest)
  form_again (fields.two o p make) step b (op, is, (x, y, same, s)) at rest =
      rw (is, same, s.whole) (again-then t (value_at o) (then_value p make) x (Plain (make x y)) s.front s.back (value_again o x s.front s.first)
      (op_again (value_at p) (make x) y s.back (value_again p y s.back s.second)) at rest)
  form_again (fields.branch to) step b (n, is, f) at rest = rw (is, fixed_at_again 2 at t n b rest f) refl

  -- ---- a whole operation

  code_again : (profile : Profile) (code : ℕ) (form : OpForm) (step : Step) (b : List ℕ) → form_of t code ≡ Some form → form_in_frame form ≡ step_in_frame step → step_allowed profile step ≡ true
      → StepForm t form step b → Again t (step_at profile) step (code ∷ b)
  unfolding step_at
  code_again profile code form step b known same allowed s at rest =
      let one = byte_again t code at (b ++ rest) in
      let ok = allowed_by profile form step (sym same) ∙ allowed in
      let place : (at + 1) + length b ≡ at + length (code ∷ b) = omega arith in
      rw (one, known, ok, form_again form step b s (at + 1) rest, place) refl

  plain_form : (code : ℕ) (form : OpForm) (op : Op) (b : List ℕ) → Makes form code → branch_target op ≡ None → OpFormSpells t form op b → StepForm t form (Plain op) b
  plain_form code (fields.none made) op b m none s = (op, refl, s)
  plain_form code (fields.one o make) op b m none s = (op, refl, s)
  plain_form code (fields.two o p make) op b m none s = (op, refl, s)
  plain_form code (fields.branch to) op b m none (i, same, s) = let k : None ≡ Some i = sym none ∙ ap branch_target same ∙ (m.0 i).0 in absurd cc

  -- what spells a step is read
  pub step_again : (profile : Profile) (step : Step) (b : List ℕ) → StepSpells t step b → step_allowed profile step ≡ true → Again t (step_at profile) step b
  unfolding form_of
  step_again profile (Plain op) b (h, none) allowed =
      let m = (form_known t h.code h.form h.known).1 in
      rw h.whole (code_again profile h.code h.form (Plain op) h.rest h.known (sym (form_framed t h.code h.form op h.rest m h.operands)) allowed (plain_form h.code h.form op h.rest m none h.operands))
  step_again profile (Jump Bra n) b h allowed = rw h.whole (code_again profile 0x28 (fields.branch ops.Bra) (Jump Bra n) h.rest refl refl allowed (n, refl, h.operands))
  step_again profile (Jump Skip n) b h allowed = rw h.whole (code_again profile 0x2f (fields.branch ops.Skip) (Jump Skip n) h.rest refl refl allowed (n, refl, h.operands))
