-- Reading a block to its end, and once more for its branches.
use Rattle.dw_op.proofs.Words.{◌≡◌, ℕ, ◌+◌, List, [], ◌∷◌, ◌++◌, length, Option, Some, None, Result, Ok, Err, refl, sym, ap, ◌∙◌, append_assoc, inl, inr, arith, ◌⊎◌, length-append, append-nil, Refusal, Target, Input, AreBytes, done}
use Rattle.dw_op.proofs.Words.{taken_bytes, Op, Profile, Step, step_at, AllInRange, Walk, walk, op_of, put_first, resolve, block_input, decode_at, Within, IsBlock, BlockFault}
use Rattle.dw_op.proofs.{Lent.{ReadingLaws.step_found, Blocks.{block_found, block_only, fault_found, fault_only, block_so, answered, refused, same_ops, same_refusal, bad_branch}, LeastBlocks.in_range_of_block}, Splits.{walk_step, walk_end}}
use Rattle.dw_num.specs.{declared.error.ReadError.{ReadError, TheVariants.{Refused, OutOfMemory}}, Refusals.Refuses}

-- ---- one operation further

pub within_all : (i : Input) → AreBytes i.bytes → Within i i
within_all i h = record { bytes = h; end = refl; target = refl }

pub within_more : (profile : Profile) (i j : Input) (x : Step × Input) → Within i j → step_at profile j ≡ done x → Within i x.1
within_more profile i j x h e =
    let found = step_found profile j x.1 x.0 h.bytes e in
    let len : length j.bytes ≡ length found.part + length x.1.bytes = ap length found.taken.bytes ∙ length-append found.part x.1.bytes in
    record {
      bytes = taken_bytes j x.1 found.part found.taken h.bytes;
      end = omega (arith, found.taken.at, h.end);
      target = found.taken.target ∙ h.target;
    }

-- ---- the operations so far

abbrev pub put_before : List Op → Result (List Op) Refusal → Result (List Op) Refusal
put_before ops (Ok more) = Ok (ops ++ more)
put_before ops (Err r) = Err r

pub record OpsSo (profile : Profile) (i j : Input) (find : ℕ → Option ℕ) (ops : List Op) : Type 0 where
  pub within : Within i j
  pub found : put_before ops (resolve find (walk profile j).items) ≡ resolve find (walk profile i).items

one_more : (at : ℕ) (ops : List Op) (op : Op) (r : Result (List Op) Refusal) → put_before (ops ++ op ∷ []) r ≡ put_before ops (put_first (Some op) at r)
one_more at ops op (Ok more) = ap (λ (l : List Op). Ok l) (append_assoc {A = Op} ops (op ∷ []) more)
one_more at ops op (Err r) = refl

pub ops_more : (profile : Profile) (i j : Input) (find : ℕ → Option ℕ) (ops : List Op) (x : Step × Input) (op : Op) → OpsSo profile i j find ops → step_at profile j ≡ done x → op_of find j.at x.0 ≡ Some op
    → OpsSo profile i x.1 find (ops ++ op ∷ [])
ops_more profile i j find ops x op h e is =
    let w = walk_step profile j x h.within.bytes e in
    let more = resolve find (walk profile x.1).items in
    record {
      within = within_more profile i j x h.within e;
      found = one_more j.at ops op more ∙ ap (λ (o : Option Op). put_before ops (put_first o j.at more)) (sym is) ∙ ap (λ (y : Walk). put_before ops (resolve find y.items)) (sym w) ∙ h.found;
    }

pub ops_bad : (profile : Profile) (i j : Input) (find : ℕ → Option ℕ) (ops : List Op) (x : Step × Input) → OpsSo profile i j find ops → step_at profile j ≡ done x → op_of find j.at x.0 ≡ None
    → resolve find (walk profile i).items ≡ Err (bad_branch j.at)
ops_bad profile i j find ops x h e is =
    let w = walk_step profile j x h.within.bytes e in
    let more = resolve find (walk profile x.1).items in
    sym h.found ∙ ap (λ (y : Walk). put_before ops (resolve find y.items)) w ∙ ap (λ (o : Option Op). put_before ops (put_first o j.at more)) is

pub ops_all : (profile : Profile) (i j : Input) (find : ℕ → Option ℕ) (ops : List Op) → OpsSo profile i j find ops → length j.bytes ≡ 0 → resolve find (walk profile i).items ≡ Ok ops
ops_all profile i j find ops h e = sym h.found ∙ ap (λ (y : Walk). put_before ops (resolve find y.items)) (walk_end profile j e) ∙ ap (λ (l : List Op). Ok l) (append-nil ops)

-- ---- the operations of a block are in range

pub decoded_in_range : (profile : Profile) (t : Target) (bytes : List ℕ) (ops : List Op) → AreBytes bytes → decode_at profile (block_input t bytes) ≡ Ok ops → AllInRange t ops
decoded_in_range profile t bytes ops h e = in_range_of_block t ops bytes (block_so profile t ops bytes (block_found profile t bytes ops h e)).0

-- ---- one answer

pub one_fault : (profile : Profile) (t : Target) (bytes : List ℕ) (r q : Refusal) → BlockFault profile t bytes r → BlockFault profile t bytes q → r ≡ q
one_fault profile t bytes r q h k = same_refusal r q (sym (fault_only profile t bytes r h) ∙ fault_only profile t bytes q k)

pub no_fault : (profile : Profile) (t : Target) (bytes : List ℕ) (ops : List Op) (r : Refusal) → IsBlock profile t ops bytes → BlockFault profile t bytes r → ⊥
no_fault profile t bytes ops r h k = let e : answered ops ≡ refused r = sym (block_only profile t bytes ops h) ∙ fault_only profile t bytes r k in cc

pub one_list : (profile : Profile) (t : Target) (bytes : List ℕ) (ops others : List Op) → IsBlock profile t ops bytes → IsBlock profile t others bytes → ops ≡ others
one_list profile t bytes ops others h k = same_ops ops others (sym (block_only profile t bytes ops h) ∙ block_only profile t bytes others k)

abbrev Answer : Profile → Target → List ℕ → Type 0
Answer profile t bytes = ((ops : List Op) × IsBlock profile t ops bytes) ⊎ ((r : Refusal) × BlockFault profile t bytes r)

pub some_answer : (profile : Profile) (t : Target) (bytes : List ℕ) → AreBytes bytes → Answer profile t bytes
some_answer profile t bytes h = go (decode_at profile (block_input t bytes)) refl
  where
    go : (r : Result (List Op) Refusal) → decode_at profile (block_input t bytes) ≡ r → Answer profile t bytes
    go (Ok ops) e = inl (ops, block_found profile t bytes ops h e)
    go (Err r) e = inr (r, fault_found profile t bytes r h e)

-- an error where there are operations is want of memory
pub only_memory : (profile : Profile) (t : Target) (bytes : List ℕ) (ops : List Op) (e : ReadError) → IsBlock profile t ops bytes → Refuses (λ r. decode_at profile (block_input t bytes) ≡ Err r) e → e ≡ OutOfMemory
only_memory profile t bytes ops (Refused r) h k = let e : answered ops ≡ refused r = sym (block_only profile t bytes ops h) ∙ k in absurd cc
only_memory profile t bytes ops OutOfMemory h k = refl
