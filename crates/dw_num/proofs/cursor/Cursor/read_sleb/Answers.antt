use Rattle.std.proofs.Common.{rules}
use Rattle.dw_num.proofs.Words.{◌≡◌, Bool, true, false, Err, Ok, None, Option, Result, Some, if◌then◌else◌, ℕ, ℤ, Input, NumberTooLarge, fault, fits_signed, leb_len, signed_groups, sleb_at, sleb_of, take}
use Rattle.dw_num.specs.{Inner.Scan.signed_of, declared.refusal.Code.Code, declared.refusal.Refusal.Refusal}
use Rattle.dw_num.proofs.cursor.Cursor.read_sleb.Goals as goal

refused_if : (b : Bool) (x : ℤ × ℕ) (y : ℤ × Input) (code : Code) (at : ℕ) → if◌then◌else◌ {A = Result (ℤ × ℕ) Code} b (Ok x) (Err NumberTooLarge) ≡ Err code → if◌then◌else◌ {A = Result (ℤ × Input) Refusal} b (Ok y) (fault NumberTooLarge at) ≡ fault code at
refused_if true x y code at e = search (rules, e)
refused_if false x y code at e = search (rules, e)

refused : (o : Option ℕ) (i : Input) (code : Code) → signed_of o i.bytes ≡ Err code → sleb_of o i ≡ fault code i.at
refused None i code e = search (rules, e)
refused (Some n) i code e = refused_if (fits_signed (signed_groups (take n i.bytes))) _ _ code i.at e

pub returns-in-Err : goal.returns-in-Err
unfolding sleb_at
returns-in-Err c = let e = refused (leb_len c.args.self.now.bytes) c.args.self.now c.in-Err.code (search (rules, c.in-Err.ensures.exact)) in search (rules, e)
