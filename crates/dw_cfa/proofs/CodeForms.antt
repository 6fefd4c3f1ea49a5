-- What the table says of a code is what the code knows of its opcode.
use Rattle.dw_cfa.proofs.Words.{◌≡◌, ℕ, ◌-◌, Bool, true, false, List, [], ◌∷◌, map, Option, None, Some, refl, sym, ap, ◌∙◌, if◌then◌else◌, option_map, nat_eq, look_up, in_range, some_is, Factors, Opcode, opcode_table, opcode_of, form_of}
use Rattle.dw_cfa.proofs.Words.{InstrForm, form_for}
use Rattle.dw_cfa.specs.declared.opcode.Opcode.TheVariants as opcodes

module _ (f : Factors) (code : ℕ) where
  either : (b : Bool) (x y : Option InstrForm) (u v : Option Opcode) → x ≡ option_map (form_of f) u → y ≡ option_map (form_of f) v → (if b then x else y) ≡ option_map (form_of f) (if b then u else v)
  either true x y u v p q = p
  either false x y u v p q = q

  looked : (table : List (ℕ × Opcode)) → look_up (map (λ (entry : ℕ × Opcode). (entry.0, form_of f entry.1)) table) code ≡ option_map (form_of f) (look_up table code)
  looked [] = refl
  looked (entry ∷ table) = either (nat_eq code entry.0) (Some (form_of f entry.1)) _ (Some entry.1) _ refl (looked table)

  pub form_known : form_for f code ≡ option_map (form_of f) (opcode_of code)
  unfolding form_for opcode_of
  form_known =
      either (in_range 0x40 0x80 code) _ _ (Some (opcodes.AdvanceLoc (code - 0x40))) _ refl (either (in_range 0x80 0xc0 code) _ _ (Some (opcodes.Offset (code - 0x80))) _ refl
      (either (in_range 0xc0 0x100 code) _ _ (Some (opcodes.Restore (code - 0xc0))) _ refl (looked opcode_table)))

  pub form_is : (opcode : Opcode) → opcode_of code ≡ Some opcode → form_for f code ≡ Some (form_of f opcode)
  form_is opcode e = form_known ∙ ap (option_map (form_of f)) e

  -- an opcode whose operands these are
  pub record Known (form : InstrForm) : Type 0 where
    pub opcode : Opcode
    pub known : opcode_of code ≡ Some opcode
    pub is : form ≡ form_of f opcode

  pub opcode_behind : (form : InstrForm) → form_for f code ≡ Some form → Known form
  opcode_behind form e = of (opcode_of code) refl (sym form_known ∙ e)
    where
      of : (o : Option Opcode) → opcode_of code ≡ o → option_map (form_of f) o ≡ Some form → Known form
      of None is bad = absurd cc
      of (Some opcode) is same = record { opcode = opcode; known = is; is = sym (some_is (form_of f opcode) form same) }
