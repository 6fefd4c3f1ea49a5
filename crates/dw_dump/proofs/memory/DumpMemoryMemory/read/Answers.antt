use Rattle.dw_eval.specs.Bytes.{number_in_memory}
use Rattle.dw_dump.proofs.Words.{◌≡◌, ℕ, Some, rules, refl, byte_among}
use Rattle.dw_dump.proofs.memory.DumpMemoryMemory.read.Goals as goal

pub returns-clause-found : goal.returns-clause-found
unfolding number_in_memory
returns-clause-found c =
    let number : number_in_memory (λ (a : ℕ). byte_among c.deref-2.result.now a c.deref.result.now) c.args.order c.args.address c.args.len ≡ Some c.number_of.result = search rules in
    (rw (← c.self.view_is) (rw (c.deref.ensures.value, c.deref-2.ensures.value) at number), refl)
