use Rattle.std.proofs.Common.{◌≡◌, ◌++◌, ℕ, true, List}
use Rattle.keel_base.specs.declared.row.Row.{Row}
use Rattle.keel_merge.specs.Merging.{IsMergeOf}
use Rattle.keel_merge.specs.Merging.{rows_of as merge_rows}
use Rattle.keel_levels.specs.Live.{rows_of}
use Rattle.keel_levels.specs.Ranges.{between, lists_between}
use Rattle.keel_levels.proofs.Listing.{merged_range, each_ascends_of}
use Rattle.keel_levels.proofs.Turning.{scan_ends}
use Rattle.keel_levels.proofs.levels.Levels.rows_between.Goals as goal

pub returns-in-Ok-merged_between-clause-reads : goal.returns-in-Ok-merged_between-clause-reads
returns-in-Ok-merged_between-clause-reads g c = λ rise told files seen readable opened.
    let from : List ℕ = c.args.from.now in
    let to : List ℕ = c.args.to.now in
    let l = c.in-Ok.ensures.reads told files seen readable opened in
    let m = c.in-Ok-merged_between.ensures (each_ascends_of from to told files c.in-Ok.lists c.args.front readable l.1 rise) in
    (l.0, merged_range from to files c.in-Ok.lists c.args.front m.0 c.in-Ok-merged_between.rows l.1 m.1 m.2)

pub returns-in-Err-merged_between-clause-reads : goal.returns-in-Err-merged_between-clause-reads
returns-in-Err-merged_between-clause-reads g c = λ rise told files seen readable opened.
    ((c.in-Ok.ensures.reads told files seen readable opened).0, tt)

pub returns-in-Err-clause-reads : goal.returns-in-Err-clause-reads
returns-in-Err-clause-reads g c = λ rise told files seen readable opened.
    let from : List ℕ = c.args.from.now in
    let to : List ℕ = c.args.to.now in
    let l = c.in-Err.ensures.reads told files seen readable opened in (
      l.0,
      scan_ends (λ (lists : List (List Row)). lists ≡ lists_between from to files) (λ (rows : List Row). IsMergeOf (between from to (rows_of files ++ merge_rows c.args.front)) true rows) c.in-Err.fault l.1,
    )
