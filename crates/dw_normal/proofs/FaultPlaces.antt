-- The place of a refusal lies in the section that it names.
use Rattle.dw_normal.proofs.Words.{◌≡◌, ℕ, Bool, List, Result, Ok, Err, IfErr, sym, ap, subst, inl, inr, arith, AreBytes, Target, Refuses, NormalFault, too_long, First, Second, Refusal, ReadError, CheckFault}
use Rattle.dw_normal.proofs.Words.{IsWithinEither, RefusesWithin, LengthFault, blamed, unwritten, SameError, WriteError}
use Rattle.dw_op.specs.Faults.{IsWithin}
use Rattle.dw_section.specs.Laws.{SectionFaultsWithin}
use Rattle.dw_num.specs.declared.error.ReadError.TheVariants as read_error
use Rattle.dw_normal.specs.declared.error.SameError.TheVariants as same_error

long_within : (s : List ℕ) (r : Refusal) → r ≡ too_long → IsWithin s r
long_within s r is = omega (arith, ap Refusal.at is)

module _ (within : SectionFaultsWithin) (t : Target) (s : List ℕ) (b : AreBytes s) where
  fault_within : (cap : ℕ) (r : Refusal) → NormalFault t cap s r → IsWithin s r
  fault_within cap r (inl fault) = within t s r b fault
  fault_within cap r (inr long) = long_within s r long.1

  pub refused_within : (cap : ℕ) (e : ReadError) → Refuses (NormalFault t cap s) e → Refuses (IsWithin s) e
  refused_within cap read_error.OutOfMemory h = tt
  refused_within cap (read_error.Refused r) h = fault_within cap r h

  pub unwritten_within : (cap : ℕ) (e : ReadError) (result : WriteError) → Refuses (NormalFault t cap s) e → result ≡ unwritten e → RefusesWithin s result
  unwritten_within cap e result h is = subst (RefusesWithin s) (sym is) (by_error e h)
    where
      by_error : (x : ReadError) → Refuses (NormalFault t cap s) x → RefusesWithin s (unwritten x)
      by_error read_error.OutOfMemory h = tt
      by_error (read_error.Refused r) h = fault_within cap r h

module _ (within : SectionFaultsWithin) (t : Target) (a b : List ℕ) where
  pub first_within : AreBytes a → (e : ReadError) (result : SameError) → Refuses (CheckFault t a) e → result ≡ blamed First e → IsWithinEither a b result
  first_within bytes e result fault is = subst (IsWithinEither a b) (sym is) (by_error e fault)
    where
      by_error : (x : ReadError) → Refuses (CheckFault t a) x → IsWithinEither a b (blamed First x)
      by_error read_error.OutOfMemory h = tt
      by_error (read_error.Refused r) h = within t a r bytes h

  pub second_within : AreBytes b → (e : ReadError) (result : SameError) → Refuses (CheckFault t b) e → result ≡ blamed Second e → IsWithinEither a b result
  second_within bytes e result fault is = subst (IsWithinEither a b) (sym is) (by_error e fault)
    where
      by_error : (x : ReadError) → Refuses (CheckFault t b) x → IsWithinEither a b (blamed Second x)
      by_error read_error.OutOfMemory h = tt
      by_error (read_error.Refused r) h = within t b r bytes h

-- a normal form that is too long is refused at 0
pub lengths_within : (t : Target) (cap : ℕ) (a b x y : List ℕ) (result : Result Bool SameError) → IfErr result (LengthFault t cap x y) → IfErr result (IsWithinEither a b)
lengths_within t cap a b x y (Ok same) h = tt
lengths_within t cap a b x y (Err same_error.OutOfMemory) h = tt
lengths_within t cap a b x y (Err (same_error.Refused First r)) h = long_within a r h.1
lengths_within t cap a b x y (Err (same_error.Refused Second r)) h = long_within b r h.2
