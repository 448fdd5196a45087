use Rattle.std.proofs.Common.{◌≤◌, ◌-◌, length, drop, arith}
use Rattle.std.proofs.KnownBytes.{Appends-trans}
use Rattle.std.proofs.Math.Seq.{take-add}
use Rattle.std.proofs.lemmas.List.{take-take, length-take-le, length-drop}
use Rattle.keel_base.proofs.sink.give_all.Goals as goal

pub giving-preserved : goal.giving-preserved
giving-preserved g c =
    let rest = drop c.giving.given c.args.bytes.now in
    let left = length c.args.bytes.now - c.giving.given in
    let room : c.in_ok-count.count ≤ left =
    omega (arith, c.in_ok-count.ensures.bound, length-take-le left rest (omega (arith, length-drop c.giving.given c.args.bytes.now)))
    in
    let more = rw (take-take c.in_ok-count.count left rest room) at c.in_ok-count.ensures.bytes in
    record {
      within = omega (arith, room);
      so_far = rw take-add (Appends-trans _ _ _ _ _ c.giving.invariant.so_far more);
      later = omega (arith, c.in_ok-count.ensures.cause.never_falls);
    }
