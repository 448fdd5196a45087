use Rattle.std.proofs.Common.{List, ◌∷◌, [], ◌++◌, ◌+◌, drop, sym, subst, arith}
use Rattle.keel_base.specs.declared.row.Row.{Row}
use Rattle.keel_core.specs.declared.segments.Segment.{Segment}
use Rattle.keel_core.specs.Scans.{AreRanges, rows_held}
use Rattle.keel_core.specs.Views.{CoreView}
use Rattle.keel_core.specs.Segments.{segments_shown}
use Rattle.keel_core.proofs.Lists.{next_item, none_behind}
use Rattle.keel_core.proofs.Ranges.{add_range}
use Rattle.keel_core.proofs.store.Core.held_between.Goals as goal

pub segments-init : goal.segments-init
segments-init g c = λ rest are.
    subst (λ (lists : List (List Row)). AreRanges c.args.from.now c.args.to.now (rows_held (segments_shown c.deref-segment-items.result.now) c.self.inside.mem.rows) (lists ++ rest)) (sym c.new-lists.ensures) are

pub segments-preserved : goal.segments-preserved
segments-preserved g c = λ rest are.
    let items = c.deref-segment-items.result.now in
    let i = c.segments.segment-index in
    let next = next_item items i c.segment-item.result c.segments-test.true c.segment-item.is in
    let along = subst (λ (left : List Segment). (rest : List (List Row)) → AreRanges c.args.from.now c.args.to.now (rows_held (segments_shown left) c.self.inside.mem.rows) rest
    → AreRanges c.args.from.now c.args.to.now (rows_held (segments_shown items) c.self.inside.mem.rows) (c.segments.lists ++ rest)) next c.segments.invariant in
    add_range c.args.from.now c.args.to.now (rows_held (segments_shown items) c.self.inside.mem.rows) (rows_held (segments_shown (drop (i + 1) items)) c.self.inside.mem.rows)
    c.segments.lists c.push.new.self rest c.segment-item.result.mem.rows c.in_ok-rows.rows c.in_ok-rows.ensures c.in_ok-push.ensures.ok along are

pub returns : goal.returns
returns g c =
    let from = c.args.from.now in
    let to = c.args.to.now in
    let items = c.deref-segment-items.result.now in
    let mem = c.self.inside.mem in
    let row_list : List Row = c.in_ok-rows-2.rows in
    let none = none_behind items c.segments.segment-index (omega (arith, c.segments-test.false)) in
    let one : AreRanges from to (rows_held (segments_shown []) mem.rows) (row_list ∷ []) = (c.in_ok-rows-2.ensures, tt) in
    let last = subst (λ (left : List Segment). AreRanges from to (rows_held (segments_shown left) mem.rows) (row_list ∷ [])) (sym none) one in
    let all = subst (AreRanges from to (rows_held (segments_shown items) mem.rows)) (sym c.in_ok-push-2.ensures.ok) (c.segments.invariant (row_list ∷ []) last) in
    subst (λ (v : CoreView). AreRanges from to (rows_held v.immutable v.rows) c.push-2.new.self) c.self.view_is
    (subst (λ (segments : List Segment). AreRanges from to (rows_held (segments_shown segments) mem.rows) c.push-2.new.self) c.deref-segment-items.ensures.value all)
