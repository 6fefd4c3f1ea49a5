use Rattle.dw_library.proofs.Words.{◌≡◌, ℕ, List, Option, Some, None, arith, refl, inl, inr, Target, Ranged}
use Rattle.dw_library.specs.{Index.{HasSize, IsIndexed}, declared.answer.Refused.Refused}
use Rattle.dw_library.proofs.index.dwframe_index_size.Goals as goal

told : (t : Option Target) (s : List ℕ) (status count : ℕ) (old new : List Ranged) (why : Refused) → IsIndexed t s status old new count why → (status ≡ 4 → HasSize t s 0 count why) × ((status ≡ 4 → ⊥) → HasSize t s status count why)
told None s status count old new why h = (λ is. absurd (omega (arith, is, h.0)), λ not. (h.0, h.2, h.3))
told (Some target) s status count old new why (inl h) = (λ is. inl (refl, (h.0.0, h.0.1, h.0.2), h.1), λ not. elim h.0.3 [ inl fits ↦ inl (fits.0, (h.0.0, h.0.1, h.0.2), h.1) | inr full ↦ absurd (not full.0) ])
told (Some target) s status count old new why (inr (inl h)) = (λ is. absurd (omega (arith, is, h.0)), λ not. inr (inl (h.0, h.1, h.3)))
told (Some target) s status count old new why (inr (inr h)) = (λ is. absurd (omega (arith, is, h.0)), λ not. inr (inr (h.0, h.2, h.3)))

pub returns-then-status : goal.returns-then-status
returns-then-status c = (told _ c.args.section.now.bytes.now c.dwframe_index-status.result _ _ _ _ c.dwframe_index-status.ensures).0 c.if-status.true

pub returns : goal.returns
returns c = (told _ c.args.section.now.bytes.now c.dwframe_index-status.result _ _ _ _ c.dwframe_index-status.ensures).1 c.if-status.false
