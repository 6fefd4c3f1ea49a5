-- The shares of FDEs, one after another.
use Rattle.dw_normal.proofs.Words.{◌≡◌, ℕ, ◌+◌, ◌*◌, ◌<◌, ◌≤◌, List, [], ◌∷◌, ◌++◌, length, map, take, get_or, refl, sym, subst, arith, Option, Some, None, IfSome, IsTrue, is_some, take_more, take_all, AreBytes, Target, Accepted}
use Rattle.dw_normal.proofs.Words.{HasLengths, AreFdes, Fde, share, Shares, canon, Member, AreMembers, fde_of}
use Rattle.dw_canon.proofs.Lent.Bounds.{canon_within}

shares_more : (t : Target) (s : List ℕ) (fs : List Fde) (f : Fde) (own initial total : ℕ) → Shares t s fs total → HasLengths t s f own initial → Shares t s (fs ++ f ∷ []) (total + share own initial)
shares_more t s [] f own initial total h k = (own, initial, 0, k, omega (arith, h), refl)
shares_more t s (g ∷ fs) f own initial total h k =
    let rest = shares_more t s fs f own initial h.2 h.5 k in
    (h.0, h.1, h.2 + share own initial, h.3, omega (arith, h.4), rest)

pub next_share : (t : Target) (s : List ℕ) (fs : List Fde) (place : ℕ) (d : Fde) (own initial total : ℕ) → place < length fs → Shares t s (take place fs) total → HasLengths t s (get_or fs place d) own initial
    → Shares t s (take (place + 1) fs) (total + share own initial)
next_share t s fs place d own initial total lt h k =
    subst (λ (l : List Fde). Shares t s l (total + share own initial)) (sym (take_more fs place d lt)) (shares_more t s (take place fs) (get_or fs place d) own initial total h k)

pub short_enough : (t : Target) (s : List ℕ) (count total cap : ℕ) → AreBytes s → Accepted t s → ((fs : List Fde) → AreFdes t s fs → count ≡ length fs) → ((fs : List Fde) → AreFdes t s fs → Shares t s (take count fs) total)
    → total ≤ 24 * cap → (ms : List Member) → AreMembers t s ms → length (canon t ms) ≤ cap
short_enough t s count total cap b ok counted shares le ms are =
    let fs = map fde_of ms in
    let all = subst (λ (l : List Fde). Shares t s l total) (take_all count fs (omega (arith, counted fs are.fdes))) (shares fs are.fdes) in
    omega (arith, canon_within t s b ok ms are total all)

-- the same where there may be no sum
module _ (t : Target) (s : List ℕ) where
  pub share_added : (fs : List Fde) (place : ℕ) (d : Fde) (own initial : ℕ) (total sum : Option ℕ) → place < length fs → IfSome total (λ (n : ℕ). Shares t s (take place fs) n) → HasLengths t s (get_or fs place d) own initial
      → ((before : ℕ) → total ≡ Some before → IfSome sum (λ (n : ℕ). n ≡ before + share own initial)) → (IsTrue (is_some sum) → IsTrue (is_some total)) → IfSome sum (λ (n : ℕ). Shares t s (take (place + 1) fs) n)
  share_added fs place d own initial total None lt h k is some = tt
  share_added fs place d own initial None (Some n) lt h k is some = let no = some refl in absurd cc
  share_added fs place d own initial (Some m) (Some n) lt h k is some =
      subst (λ (x : ℕ). Shares t s (take (place + 1) fs) x) (sym (is m refl)) (next_share t s fs place d own initial m lt h k)

  pub short_where : (count cap : ℕ) (total : Option ℕ) → AreBytes s → Accepted t s → ((fs : List Fde) → AreFdes t s fs → count ≡ length fs)
      → ((fs : List Fde) → AreFdes t s fs → IfSome total (λ (n : ℕ). Shares t s (take count fs) n)) → IfSome total (λ (n : ℕ). n ≤ 24 * cap) → IsTrue (is_some total)
      → (ms : List Member) → AreMembers t s ms → length (canon t ms) ≤ cap
  short_where count cap (Some n) b ok counted shares le some ms are = short_enough t s count n cap b ok counted shares le ms are
  short_where count cap None b ok counted shares le some ms are = absurd cc
