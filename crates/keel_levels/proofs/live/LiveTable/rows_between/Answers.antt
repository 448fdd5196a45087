use Rattle.std.proofs.Common.{◌≡◌, Some, ◌∙◌}
use Rattle.keel_levels.proofs.live.LiveTable.rows_between.Goals as goal

pub returns-in-Ok-clause-reads : goal.returns-in-Ok-clause-reads
returns-in-Ok-clause-reads g c = λ told last_seq file seen readable live.
    let taken = c.in-Ok.ensures.reads told last_seq file seen readable live in
    let told_then : (g.D.Disk.seen c.take_table.new.disk).told ≡ Some told = c.in-Ok.ensures.quiet.same ∙ seen in
    (record { entry = taken.0.entry; open_as = taken.1 }, c.rows_in_table-rows.ensures.says told last_seq file told_then readable taken.1)
