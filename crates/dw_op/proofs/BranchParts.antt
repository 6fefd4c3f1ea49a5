-- Parts at which an operation stands are those that lead to a start or to the end, where they are branches.
use Rattle.dw_op.specs.declared.operation.Branch.TheVariants as branches
use Rattle.dw_op.proofs.Words.{◌≡◌, ℕ, suc, ◌+◌, List, Option, Some, None, refl, sym, subst, ◌∙◌, arith, inl, inr, slice_get, Target, Op, Bra, Skip, Profile, Location, Plain, Jump, OpSpells}
use Rattle.dw_op.proofs.{Words.{branch_target, Displaced, Stands, IsPart, IsBranch, Leads}, Lent.ReadingLaws.some_is, Lent.Spellings.{by_table, in_table}, ResolvedSteps.{one_step, any_code}, Splits.spelled}

-- some operation stands at part k
abbrev pub Stood : Target → List (List ℕ) → ℕ → List ℕ → Type 0
Stood t parts k part = (op : Op) × Stands t parts k op part

not_branch : (t : Target) (op : Op) (part : List ℕ) → branch_target op ≡ None → OpSpells t op part → IsBranch part → ⊥
not_branch t op part none h (inl b) = let e = one_step Location t (Plain op) (Jump branches.Bra _) part (spelled Location t (Plain op) part (h, none) refl) (any_code t branches.Bra part b) in cc
not_branch t op part none h (inr b) = let e = one_step Location t (Plain op) (Jump branches.Skip _) part (spelled Location t (Plain op) part (h, none) refl) (any_code t branches.Skip part b) in cc

pub stood_leads : (t : Target) (parts : List (List ℕ)) (k : ℕ) (part : List ℕ) → slice_get parts k ≡ Some part → Stood t parts k part → Leads t parts k
stood_leads t parts k part here stood other there branch = of (branch_target stood.0) refl stood.1.displaced
  where
    same : part ≡ other
    same = some_is part other (sym here ∙ there)

    of : (o : Option ℕ) → branch_target stood.0 ≡ o → Displaced t.order parts k o part → (i : ℕ) × Displaced t.order parts k (Some i) other
    of None is d = absurd (not_branch t stood.0 part is stood.1.spells (subst IsBranch (sym same) branch))
    of (Some i) is d = (i, subst (λ (b : List ℕ). Displaced t.order parts k (Some i) b) same d)

pub leads_stood : (profile : Profile) (t : Target) (parts : List (List ℕ)) (k : ℕ) (part : List ℕ) → slice_get parts k ≡ Some part → IsPart profile t part → Leads t parts k → Stood t parts k part
leads_stood profile t parts k part here h leads = of h.0 h.1
  where
    of : (op : Op) → OpSpells t op part → Stood t parts k part
    of (Bra i) s = let l = leads part here (inl (by_table t (Bra i) part s)) in (Bra l.0, record { spells = in_table t (Bra l.0) part (by_table t (Bra i) part s); displaced = l.1 })
    of (Skip i) s = let l = leads part here (inr (by_table t (Skip i) part s)) in (Skip l.0, record { spells = in_table t (Skip l.0) part (by_table t (Skip i) part s); displaced = l.1 })
    of op s = (op, record { spells = s; displaced = tt })

-- ---- parts by their numbers

pub moved : (k j : ℕ) → k + suc j ≡ suc k + j
moved k j = omega arith
