use Rattle.std.proofs.Common.{◌≡◌, ◌+◌, ℕ, List, ◌++◌, length, take, drop, arith, sym, ◌∙◌, ap}
use Rattle.std.proofs.Math.ListN.{drop_of_length-le}
use Rattle.std.proofs.lemmas.List.{take_at, drop-drop, take-append-drop, length-append, length-take-le, length-drop}
use Rattle.keel_base.proofs.in_memory.copied.Goals as goal

-- what was copied, and then what is left
taken : (bytes copied rest : List ℕ) (place count : ℕ) → copied ≡ take count (drop place bytes) → length copied ≡ count
    → drop place bytes ≡ take count (copied ++ rest) ++ drop (place + count) bytes
taken bytes copied rest place count same len =
    rw (take_at copied rest count len, same, ← drop-drop count place bytes) (sym (take-append-drop count (drop place bytes)))

pub returns-clause-bytes : goal.returns-clause-bytes
returns-clause-bytes c =
    let bytes = c.args.bytes.now in
    let place = c.args.place in
    let count = c.min-count.result in
    let rest = drop count c.args.buffer.now in
    let dropped = length-drop place bytes in
    let back : length c.split_at.result.1.now ≡ length (drop place bytes) = ap length c.split_at.ensures.back in
    let same : c.copy_from_slice.new.self ≡ take count (drop place bytes) = rw (← c.split_at.ensures.back) c.copy_from_slice.ensures.after in
    let len : length c.copy_from_slice.new.self ≡ count =
    ap length same ∙ length-take-le count (drop place bytes) (omega (arith, c.min-count.ensures))
    in (
      taken bytes c.copy_from_slice.new.self rest place count same len,
      λ none room.
          drop_of_length-le bytes
          (omega (arith, c.min-count.ensures, length-append c.copy_from_slice.new.self rest, length-drop count c.args.buffer.now)),
    )
