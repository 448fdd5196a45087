use Rattle.std.proofs.Common.{◌≡◌, None, Option, subst, sym}
use Rattle.keel_disk.specs.Told.{Told}
use Rattle.keel_edit.specs.declared.edit.Added.{Added}
use Rattle.keel_table.specs.Answers.{Answers}
use Rattle.keel_table.specs.Opening.{opened}
use Rattle.keel_table.specs.Tables.{shown}
use Rattle.keel_levels.specs.Live.{IsOpenAs}
use Rattle.keel_levels.proofs.Causes.{opens}
use Rattle.keel_levels.proofs.live.LiveTable.take_table.Goals as goal

pub returns-in-None-clause-reads : goal.returns-in-None-clause-reads
returns-in-None-clause-reads g c = λ told last_seq file seen readable live.
    let entry : Added = c.args.self.now.entry in
    let o = c.open_table in
    let none : c.take.new.self ≡ None = c.in-None.ensures.after in (
      record { entry = live.entry; open_as = subst (IsOpenAs file) (sym none) tt },
      opens told last_seq file entry o.result readable live.entry
          (λ long. subst (λ (d : Option Told). Answers shown (opened entry.size) entry.number d o.result) seen (o.ensures.answer long)) o.ensures.number,
    )
