-- Ranges of addresses, each with the place of its FDE: their order, and those that share an address.
use Rattle.std.specs.{Prelude.{◌≡◌, ℕ, ◌+◌, ◌<◌, ◌≤◌, ◌⊎◌, List, [], ◌∷◌, ◌++◌}, List.AllByRecursion}
use Rattle.dw_num.specs.declared.refusal.{Code.TheVariants.Overlap, Refusal.Refusal}
use Rattle.dw_index.specs.{Among.IsAmong, declared.ranged.Ranged.Ranged}

-- a range of addresses, with the place of its FDE
pub record Range : Type 0 where
  pub at : ℕ
  pub begin : ℕ
  pub range : ℕ

abbrev pub range_in : Ranged → Range
range_in e = record { at = e.at; begin = e.begin; range = e.range }

-- each stands behind those before it
abbrev pub StandInOrder : List Ranged → Type 0
StandInOrder [] = Unit {0}
StandInOrder (e ∷ list) = AllByRecursion (λ f. e.at < f.at) list × StandInOrder list

-- one stands before another: by begin, then by place
abbrev pub Precedes : Range → Range → Type 0
Precedes a b = (a.begin < b.begin) ⊎ ((a.begin ≡ b.begin) × (a.at < b.at))

-- each precedes all after it
abbrev pub Ascends : List Range → Type 0
Ascends [] = Unit {0}
Ascends (a ∷ rs) = AllByRecursion (Precedes a) rs × Ascends rs

-- the first address past a range
abbrev pub end_of : Range → ℕ
end_of a = a.begin + a.range

-- no range begins below the end of one before it
abbrev pub AreApart : List Range → Type 0
AreApart [] = Unit {0}
AreApart (a ∷ rs) = AllByRecursion (λ b. end_of a ≤ b.begin) rs × AreApart rs

-- one begins below the end of one before it, and those before it are apart
pub record FirstOverlap (index : List Range) (r : Refusal) : Type 0 where
  pub before : List Range
  pub it : Range
  pub after : List Range
  pub whole : index ≡ before ++ it ∷ after
  pub apart : AreApart before
  pub other : Range
  pub other_in : IsAmong other before
  pub meets : it.begin < end_of other
  pub is : r ≡ record { code = Overlap; at = it.at }
