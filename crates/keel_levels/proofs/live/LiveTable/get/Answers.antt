use Rattle.std.proofs.Common.{◌≡◌, Some, Option, subst, ◌∙◌, []}
use Rattle.keel_disk.specs.Told.{Told}
use Rattle.keel_table.specs.Answers.{GetAnswers}
use Rattle.keel_table.specs.Opening.{covering}
use Rattle.keel_table.specs.Tables.{number_of, entries_of}
use Rattle.keel_levels.proofs.Causes.{gets}
use Rattle.keel_levels.proofs.live.LiveTable.get.Goals as goal

pub returns-in-Ok-clause-reads : goal.returns-in-Ok-clause-reads
returns-in-Ok-clause-reads g c = λ told last_seq file seen readable live.
    let taken = c.in-Ok.ensures.reads told last_seq file seen readable live in
    let table = c.in-Ok.table in
    let key = c.args.key.now in
    let told_then : (g.D.Disk.seen c.take_table.new.disk).told ≡ Some told = c.in-Ok.ensures.quiet.same ∙ seen in (
      record { entry = taken.0.entry; open_as = taken.1 },
      gets told last_seq file table key c.get-row.result readable taken.1
          (subst (λ (d : Option Told). GetAnswers (covering [] (entries_of table) key) key (number_of table) d c.get-row.result) told_then c.get-row.ensures.answer),
    )
