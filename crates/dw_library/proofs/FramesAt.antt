-- A frame by an index or why there is none, as the functions over an index answer.
use Rattle.dw_library.proofs.Words.{◌≡◌, ◌⊎◌, ℕ, List, Option, Some, Result, Ok, Err, MatchResult, map, subst, inl, inr, Target, Policy, held, Ranged, Accepted, IsTable, range_in, Stop, not_refused, Machine, Told, IsFrame, IsUnwound}
use Rattle.dw_library.proofs.Words.{no_frame, status_of, told_fault, Register, given_in, byte_among}
use Rattle.dw_unwind.specs.{Unwound.Unwound, UnwoundAt.UnwoundAt, declared.by_index.UnwindAtError.UnwindAtError, declared.by_index.UnwindAtError.TheVariants.Unwind}
use Rattle.dw_frame.specs.{Frames.stopped, declared.frame.Frame.{Frame as CallerFrame}}
use Rattle.dw_frame.specs.declared.frame.{UnwindError.UnwindError, UnwindError.TheVariants.OutOfMemory}
use Rattle.dw_library.specs.{FrameAt.IsFrameAt, Inner.FrameAt.{IsOwn, Why, WhyOwn}}

is_accepted : (target : Target) (s : List ℕ) (index : List Ranged) → IsTable target s index → Accepted target s
is_accepted target s index t = (map range_in index, (t.indexed.headers, t.indexed.hold, t.indexed.is_index), t.apart)

module _ (target : Target) (policy : Policy) (s : List ℕ) (index : List Ranged) (stop : Stop) (m : Machine) (values : List (Option ℕ)) (are : (r : ℕ) → held values r ≡ given_in m.registers r) where
  pub any_told : (r : Result CallerFrame UnwindAtError)
      → ((r ≡ Err (Unwind OutOfMemory)) ⊎ UnwoundAt target s index stop.pc (stopped target values (byte_among m.memory m.windows)) policy stop.steps r)
      → MatchResult r (λ f. IsFrameAt target policy s index stop m (Ok f)) (Why target policy s stop m index)
  any_told (Ok f) (inl same) = absurd cc
  any_told (Ok f) (inr is) = record { values = values; are = are; is = is }
  any_told (Err e) (inl same) = inl cc
  any_told (Err e) (inr is) = inr (record { values = values; are = are; is = is })

  abbrev Is : Result CallerFrame UnwindError → Type 0
  Is r = Unwound target s stop.pc (stopped target values (byte_among m.memory m.windows)) policy stop.steps r

  pub own_told : IsTable target s index → (r : Result CallerFrame UnwindAtError) → IsOwn Is r
      → MatchResult r (λ f. IsFrame target policy s stop m (Ok f)) (WhyOwn target policy s stop m)
  own_told t (Ok f) (Ok g, same, inl short) = absurd cc
  own_told t (Ok f) (Ok g, same, inr is) = let one : g ≡ f = cc in record { accepted = is_accepted target s index t; values = values; are = are; is = subst (λ (h : CallerFrame). Is (Ok h)) one is }
  own_told t (Ok f) (Err u, same, h) = absurd cc
  own_told t (Err e) (Ok g, same, h) = absurd cc
  own_told t (Err e) (Err u, same, inl short) = let one : e ≡ Unwind u = cc in let none : u ≡ OutOfMemory = cc in inl cc
  own_told t (Err e) (Err u, same, inr is) = inr (u, cc, record { accepted = is_accepted target s index t; values = values; are = are; is = is })

-- why there is none, as it is told
pub own_fails : (target : Target) (policy : Policy) (s : List ℕ) (stop : Stop) (m : Machine) (old : List Register) (t : Told) (u : UnwindError) → t ≡ record { status = status_of u; registers = old; frame = no_frame; refusal = not_refused; fault = told_fault u }
    → WhyOwn target policy s stop m (Unwind u) → IsUnwound (Some target) (Some policy) s stop m old t
own_fails target policy s stop m old t u is (inl short) =
    let same : u ≡ OutOfMemory = cc in
    inr (inr (inr (subst (λ (x : UnwindError). t ≡ record { status = status_of x; registers = old; frame = no_frame; refusal = not_refused; fault = told_fault x }) same is)))
own_fails target policy s stop m old t u is (inr why) =
    let same : why.0 ≡ u = let p = why.1 in cc in
    inr (inr (inl (u, subst (λ (x : UnwindError). IsFrame target policy s stop m (Err x)) same why.2, is)))
