use Rattle.std.proofs.Common.{◌≡◌, ◌+◌, length, drop, ap, ◌∙◌, arith}
use Rattle.keel_machine.specs.Telling.{on_level, sizes_of, told_count}
use Rattle.keel_core.proofs.Lists.{next_item, none_behind}
use Rattle.keel_core.proofs.Tellings.{on_other, on_this}
use Rattle.keel_core.proofs.telling.level_view.Goals as goal
use Rattle.keel_core.proofs.telling.level_view.Goals.{then-table-level, else-table-level}

pub loop-table-preserved : goal.loop-table-preserved
loop-table-preserved c =
    let table = c.table-item.result in
    let next = next_item c.args.tables.now c.loop-table.table-index table c.loop-table-test.true c.table-item.is in
    let left = drop (c.loop-table.table-index + 1) c.args.tables.now in
    let held = c.loop-table.invariant in
    let others = ap (λ (l : _). on_level c.args.level l) next in
    elim c.if-table-level.branch [
      | then-table-level w ↦
          let on = others ∙ on_this c.args.level table left w.if-table-level.true in
          let count = ap (λ (l : _). length l) on in
          let size = ap sizes_of on in
          record {
            files = omega (arith, w.files-is, held.files, count);
            few = omega (arith, w.files-is, held.few);
            bytes = omega (arith, w.bytes-is, held.bytes, size, w.size_of-bytes.ensures.value);
            small = omega (arith, w.bytes-is, held.small, w.size_of-bytes.ensures.bound);
          }
      | else-table-level w ↦
          let on = others ∙ on_other c.args.level table left w.if-table-level.false in
          let count = ap (λ (l : _). length l) on in
          let size = ap sizes_of on in
          record {
            files = omega (arith, w.files-is, held.files, count);
            few = omega (arith, w.files-is, held.few);
            bytes = omega (arith, w.bytes-is, held.bytes, size);
            small = omega (arith, w.bytes-is, held.small);
          }
    ]

pub returns : goal.returns
returns c =
    let none = none_behind c.args.tables.now c.loop-table.table-index c.loop-table-test.false in
    let held = c.loop-table.invariant in
    let count = ap (λ (l : _). length (on_level c.args.level l)) none in
    let size = ap (λ (l : _). sizes_of (on_level c.args.level l)) none in
    let files : c.loop-table.files ≡ length (on_level c.args.level c.args.tables.now) = omega (arith, held.files, count) in
    let bytes : c.loop-table.bytes ≡ sizes_of (on_level c.args.level c.args.tables.now) = omega (arith, held.bytes, size) in
    λ i. record { files = (c.told_count.ensures ∙ ap told_count files) i; bytes = bytes i }
