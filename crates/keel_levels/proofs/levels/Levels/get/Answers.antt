use Rattle.std.proofs.Common.{◌≡◌, ◌<◌, ◌+◌, ℕ, List, Option, Some, None, Ok, Err, length, ap, ◌∙◌, arith}
use Rattle.std.proofs.Math.ListN.{length-set}
use Rattle.keel_disk.proofs.Faults.{quiet_behind}
use Rattle.keel_base.specs.declared.row.Row.{Row}
use Rattle.keel_base.specs.Rows.{newest}
use Rattle.keel_levels.specs.Live.{rows_of}
use Rattle.keel_levels.specs.declared.live.LiveTable.{LiveTable}
use Rattle.keel_levels.proofs.Turning.{turns, ends, same_tables, all_rows, rows_to}
use Rattle.keel_levels.proofs.levels.Levels.get.Goals as goal

pub returns-in-Err-clause-reads : goal.returns-in-Err-clause-reads
returns-in-Err-clause-reads g c = λ told files seen readable opened.
    let i : ℕ = c.tables.i in
    let now : (g.D.Disk.seen c.tables.disk).told ≡ Some told = c.tables.invariant.quiet.same ∙ seen in
    let within : i < length c.tables.self-inside.tables.items = omega arith in
    let t = turns c.args.key.now i c.tables.self-inside.tables.items c.index_mut.result.now c.newer.new.self c.index_mut.result.now files told c.tables.found (Err c.in-Err.fault)
    within c.index_mut.ensures.value readable (c.tables.invariant.found told files seen readable opened)
    (λ last_seq file one live. c.in-Err.ensures.reads told last_seq file now one live) in
    (t.opened, ends (λ (row : Option Row). row ≡ newest c.args.key.now (rows_to (i + 1) files)) (λ (row : Option Row). row ≡ newest c.args.key.now (rows_of files)) c.in-Err.fault t.says)

pub returns-in-Err-clause-tables : goal.returns-in-Err-clause-tables
returns-in-Err-clause-tables g c =
    let within : c.tables.i < length c.tables.self-inside.tables.items = omega arith in
    same_tables c.tables.self-inside.tables.items c.tables.i c.index_mut.result.now c.newer.new.self c.index_mut.result.now within c.index_mut.ensures.value c.in-Err.ensures.entry ∙ c.tables.invariant.tables

pub tables-preserved : goal.tables-preserved
tables-preserved g c =
    let i : ℕ = c.tables.i in
    let lives : List LiveTable = c.tables.self-inside.tables.items in
    let within : i < length lives = omega arith in
    record {
      long = length-set lives i c.newer.new.self ∙ c.tables.invariant.long;
      tables = same_tables lives i c.index_mut.result.now c.newer.new.self c.index_mut.result.now within c.index_mut.ensures.value c.in-Ok.ensures.entry ∙ c.tables.invariant.tables;
      quiet = quiet_behind _ _ _ None c.tables.invariant.quiet c.in-Ok.ensures.quiet;
      found = λ told files seen readable opened.
          let now : (g.D.Disk.seen c.tables.disk).told ≡ Some told = c.tables.invariant.quiet.same ∙ seen in
          let t = turns c.args.key.now i lives c.index_mut.result.now c.newer.new.self c.index_mut.result.now files told c.tables.found (Ok c.in-Ok.newer)
          within c.index_mut.ensures.value readable (c.tables.invariant.found told files seen readable opened)
          (λ last_seq file one live. c.in-Ok.ensures.reads told last_seq file now one live) in
          record { opened = t.opened; is = t.says };
    }

pub returns-clause-reads : goal.returns-clause-reads
returns-clause-reads g c = λ told files seen readable opened.
    let along = c.tables.invariant.found told files seen readable opened in
    let all : c.tables.i ≡ length c.tables.self-inside.tables.items = omega arith in
    (along.opened, along.is ∙ ap (newest c.args.key.now) (ap (λ (i : ℕ). rows_to i files) all ∙ all_rows c.tables.self-inside.tables.items files along.opened))
