use Rattle.std.proofs.Common.{◌≡◌, ◌++◌, List, ap, sym, subst, ◌∙◌, append-nil}
use Rattle.keel_base.specs.declared.row.Row.{Row}
use Rattle.keel_core.specs.Scans.{IsRange}
use Rattle.keel_levels.specs.Ranges.{between}
use Rattle.keel_core.proofs.Ranges.{range_of}
use Rattle.keel_core.proofs.scanning.rows_between.Goals as goal

pub returns : goal.returns
returns c =
    let from = c.args.from.now in
    let to = c.args.to.now in
    let sorted = c.rows-row-items.result in
    let ended : c.loop-row.rows ≡ between from to sorted =
    sym (append-nil c.loop-row.rows) ∙ ap (λ (rows : List Row). c.loop-row.rows ++ between from to rows) (sym c.in-None.ensures.steps.0) ∙ c.loop-row.invariant ∙ ap (between from to) c.into_iter-row-iterator.ensures.into_iter_gives in
    subst (IsRange from to c.args.mem.now.rows) (sym ended) (range_of from to c.args.mem.now.rows sorted c.rows-row-items.ensures.same c.rows-row-items.ensures.order)
