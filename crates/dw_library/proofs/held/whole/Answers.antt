use Rattle.dw_library.proofs.Words.{◌≡◌, ℕ, suc, ◌+◌, ◌<◌, List, length, drop, get_or, Option, Some, None, IfSome, true, false, refl, sym, subst, ◌∙◌, arith, drop-cons, bytes_all, covers, byte_of, byte_among}
use Rattle.dw_eval.specs.Bytes.{bytes_from}
use Rattle.dw_library.specs.declared.held.Window.{Window}
use Rattle.dw_library.proofs.held.whole.Goals as goal

both : {R : Type 0} {P Q S : R → Type 0} (o : Option R) → ((r : R) → P r → Q r → S r) → IfSome o P → IfSome o Q → IfSome o S
both None f p q = p
both (Some r) f p q = f r p q

-- a window that lacks an address is passed over
behind : (bytes : List ℕ) (ws : List Window) (i a : ℕ) (d : Window) → i < length ws → covers a (get_or ws i d) ≡ false → byte_among bytes (drop (i + 1) ws) a ≡ byte_among bytes (drop i ws) a
behind bytes ws i a d lt lacks =
    let next : i + 1 ≡ suc i = omega arith in
    rw (next, drop-cons ws i d lt, lacks) refl

-- and one that has it tells its byte
first : (bytes : List ℕ) (ws : List Window) (i a : ℕ) (d : Window) → i < length ws → covers a (get_or ws i d) ≡ true → byte_among bytes (drop i ws) a ≡ byte_of bytes a (get_or ws i d)
first bytes ws i a d lt has = rw (drop-cons ws i d lt, has) refl

pub windows-preserved : goal.windows-preserved
windows-preserved c = λ k lt. behind c.args.bytes.now c.args.windows.now c.windows.i (c.args.address + k) _ c.windows-test.true (c.if-not-is_apart.ensures k lt) ∙ c.windows.invariant k lt

pub returns-then-not-is_apart-clause-all : goal.returns-then-not-is_apart-clause-all
returns-then-not-is_apart-clause-all c =
    let a = c.args in
    both c.bytes_of.result (λ r long spelled.
    let all = bytes_all (byte_among a.bytes.now a.windows.now) a.address r.now (λ k lt.
    let within : k < a.len = omega (arith, lt, long) in
    sym (c.windows.invariant k within) ∙ first a.bytes.now a.windows.now c.windows.i (a.address + k) _ c.windows-test.true (spelled k lt).0 ∙ (spelled k lt).1) in
    subst (λ (n : ℕ). bytes_from (byte_among a.bytes.now a.windows.now) a.address n ≡ Some r.now) long all) c.bytes_of.ensures.len c.bytes_of.ensures.spelled
