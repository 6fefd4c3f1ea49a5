use Rattle.dw_dump.proofs.{Words.{◌≡◌, ◌+◌, ◌≤◌, length, arith, refl}, KeepLaws.keeps_memory}
use Rattle.dw_dump.proofs.dump.add_memory.Goals as goal

pub returns : goal.returns
returns c = λ ss number k.
    let fits : c.args.start + length c.args.bytes.now ≤ c.args.limit = omega (arith, c.from.ensures, c.if-from-bytes.false) in
    let place : c.len.result ≡ length c.args.kept.now.bytes.items = omega (arith, c.len.ensures, c.args.kept.now.bytes.ok) in
    (keeps_memory _ c.args.start c.args.bytes.now k number fits c.requires refl (λ r. refl) (rw place at c.in_ok-push.ensures.items) c.in_ok-extend_from_slice.ensures.items, fits)
