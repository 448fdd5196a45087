use Rattle.std.proofs.Common.{◌≡◌, ◌<◌, ◌+◌, ◌++◌, ◌∷◌, [], ℕ, List, Some, None, Ok, Err, length, take, ap, ◌∙◌, arith}
use Rattle.std.proofs.Math.ListN.{length-set}
use Rattle.keel_disk.proofs.Faults.{quiet_behind}
use Rattle.keel_base.specs.declared.row.Row.{Row}
use Rattle.keel_directory.specs.TableFiles.{TableFile}
use Rattle.keel_levels.specs.Ranges.{lists_between}
use Rattle.keel_levels.specs.declared.live.LiveTable.{LiveTable}
use Rattle.keel_levels.proofs.Listing.{adds}
use Rattle.keel_levels.proofs.Turning.{ends, same_tables, all_files}
use Rattle.keel_levels.proofs.levels.Levels.lists_between.Goals as goal

pub returns-in-Err-clause-reads : goal.returns-in-Err-clause-reads
returns-in-Err-clause-reads g c = λ told files seen readable opened.
    let i : ℕ = c.tables.i in
    let from : List ℕ = c.args.from.now in
    let to : List ℕ = c.args.to.now in
    let lists : List (List Row) = c.tables.lists in
    let now : (g.D.Disk.seen c.tables.disk).told ≡ Some told = c.tables.invariant.quiet.same ∙ seen in
    let within : i < length c.tables.self-inside.tables.items = omega arith in
    let t = adds from to i c.tables.self-inside.tables.items c.index_mut.result.now c.rows_between.new.self c.index_mut.result.now files told lists (Err c.in-Err.fault)
    within c.index_mut.ensures.value readable (c.tables.invariant.found told files seen readable opened)
    (λ last_seq file one live. c.in-Err.ensures.reads told last_seq file now one live) in (
      t.opened,
      ends (λ (rows : List Row). lists ++ rows ∷ [] ≡ lists_between from to (take (i + 1) files)) (λ (all : List (List Row)). all ≡ lists_between from to files) c.in-Err.fault t.says,
    )

pub returns-in-Err-clause-tables : goal.returns-in-Err-clause-tables
returns-in-Err-clause-tables g c =
    let within : c.tables.i < length c.tables.self-inside.tables.items = omega arith in
    same_tables c.tables.self-inside.tables.items c.tables.i c.index_mut.result.now c.rows_between.new.self c.index_mut.result.now within c.index_mut.ensures.value c.in-Err.ensures.entry ∙ c.tables.invariant.tables

pub returns-in-Err-push-clause-reads : goal.returns-in-Err-push-clause-reads
returns-in-Err-push-clause-reads g c = λ told files seen readable opened.
    let now : (g.D.Disk.seen c.tables.disk).told ≡ Some told = c.tables.invariant.quiet.same ∙ seen in
    let within : c.tables.i < length c.tables.self-inside.tables.items = omega arith in
    let t = adds c.args.from.now c.args.to.now c.tables.i c.tables.self-inside.tables.items c.index_mut.result.now c.rows_between.new.self c.index_mut.result.now files told c.tables.lists (Ok c.in-Ok.rows)
    within c.index_mut.ensures.value readable (c.tables.invariant.found told files seen readable opened)
    (λ last_seq file one live. c.in-Ok.ensures.reads told last_seq file now one live) in
    (t.opened, tt)

pub returns-in-Err-push-clause-tables : goal.returns-in-Err-push-clause-tables
returns-in-Err-push-clause-tables g c =
    let within : c.tables.i < length c.tables.self-inside.tables.items = omega arith in
    same_tables c.tables.self-inside.tables.items c.tables.i c.index_mut.result.now c.rows_between.new.self c.index_mut.result.now within c.index_mut.ensures.value c.in-Ok.ensures.entry ∙ c.tables.invariant.tables

pub returns-in-Err-push-clause-quiet : goal.returns-in-Err-push-clause-quiet
returns-in-Err-push-clause-quiet g c = quiet_behind _ _ _ None c.tables.invariant.quiet c.in-Ok.ensures.quiet

pub tables-preserved : goal.tables-preserved
tables-preserved g c =
    let i : ℕ = c.tables.i in
    let lives : List LiveTable = c.tables.self-inside.tables.items in
    let within : i < length lives = omega arith in
    record {
      long = length-set lives i c.rows_between.new.self ∙ c.tables.invariant.long;
      tables = same_tables lives i c.index_mut.result.now c.rows_between.new.self c.index_mut.result.now within c.index_mut.ensures.value c.in-Ok.ensures.entry ∙ c.tables.invariant.tables;
      quiet = quiet_behind _ _ _ None c.tables.invariant.quiet c.in-Ok.ensures.quiet;
      found = λ told files seen readable opened.
          let now : (g.D.Disk.seen c.tables.disk).told ≡ Some told = c.tables.invariant.quiet.same ∙ seen in
          let t = adds c.args.from.now c.args.to.now i lives c.index_mut.result.now c.rows_between.new.self c.index_mut.result.now files told c.tables.lists (Ok c.in-Ok.rows)
          within c.index_mut.ensures.value readable (c.tables.invariant.found told files seen readable opened)
          (λ last_seq file one live. c.in-Ok.ensures.reads told last_seq file now one live) in
          record { opened = t.opened; is = c.in-Ok-push.ensures.ok ∙ t.says };
    }

pub returns-clause-reads : goal.returns-clause-reads
returns-clause-reads g c = λ told files seen readable opened.
    let along = c.tables.invariant.found told files seen readable opened in
    let all : c.tables.i ≡ length c.tables.self-inside.tables.items = omega arith in (
      along.opened,
      along.is ∙ ap (λ (some : List TableFile). lists_between c.args.from.now c.args.to.now some) (ap (λ (i : ℕ). take i files) all ∙ all_files c.tables.self-inside.tables.items files along.opened),
    )
