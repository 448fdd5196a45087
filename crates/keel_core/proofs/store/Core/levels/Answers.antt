use Rattle.std.proofs.Common.{◌≡◌, length, ap, sym, ◌∙◌, arith}
use Rattle.keel_machine.specs.Telling.{level_view}
use Rattle.keel_core.specs.Segments.{segments_shown}
use Rattle.keel_core.proofs.Segmenting.{shown_many}
use Rattle.keel_core.proofs.Tellings.{levels_told}
use Rattle.keel_core.proofs.Unopened.{entries_shown}
use Rattle.keel_core.proofs.store.Core.levels.Goals as goal

pub returns : goal.returns
returns g c =
    let w = c.self.inside in
    let tables = c.as_slice-tables.ensures ∙ sym (entries_shown w.tables.live w.tables.entries w.tables.same) in
    let many = shown_many w.segments.items in
    let immutables : c.len.result ≡ length (segments_shown w.segments.items) = omega (arith, c.len.ensures, many) in
    rw (← c.self.view_is) (record {
      turn = levels_told _ _ (λ i. record {
        level0 = (c.level_view.ensures ∙ ap (level_view 0) tables) i;
        level1 = (c.level_view-2.ensures ∙ ap (level_view 1) tables) i;
        level2 = (c.level_view-3.ensures ∙ ap (level_view 2) tables) i;
        level3 = (c.level_view-4.ensures ∙ ap (level_view 3) tables) i;
        active = c.weight.ensures.value i;
        immutables = immutables i;
        waiting = c.waiting.ensures.count i;
      });
    })
