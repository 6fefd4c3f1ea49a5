use Rattle.dw_normal.proofs.{Words.{Appends-kept, length, take, drop, sym, arith, length-drop, length-take-le, take-append-drop, take_rest, refl}, Taken.{took_more}}
use Rattle.dw_normal.proofs.output.put_bytes.Goals as goal

pub returns-in_default : goal.returns-in_default
returns-in_default g c =
    let inv = c.bytes.invariant in
    let bytes = c.args.bytes.now in (
      refl,
      omega (arith, c.in_default.ensures.fault.0, inv.2),
      record {
        front = take c.bytes.done bytes;
        rest = drop c.bytes.done bytes;
        whole = sym (take-append-drop c.bytes.done bytes);
        room = omega (arith, inv.1, length-take-le c.bytes.done bytes inv.0);
        took = λ _. Appends-kept _ _ _ _ inv.3 c.in_default.ensures.fault.1;
      },
    )

pub bytes-preserved : goal.bytes-preserved
bytes-preserved g c = grind (arith, length-drop, length, take_rest, took_more)
