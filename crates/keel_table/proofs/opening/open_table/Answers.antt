use Rattle.std.proofs.Common.{List, Option, Ok, Err, refl, subst}
use Rattle.keel_disk.specs.Told.{Told}
use Rattle.keel_table.specs.declared.index.BlockEntry.{BlockEntry}
use Rattle.keel_table.specs.Opening.{entries_found}
use Rattle.keel_table.specs.Answers.{Answers}
use Rattle.keel_table.specs.Tables.{shown}
use Rattle.keel_table.proofs.Composing.{opened_ok, opened_no_footer, opened_no_entries}
use Rattle.keel_table.proofs.opening.open_table.Goals as goal

pub returns-in-Ok-read_entries-clause-answer : goal.returns-in-Ok-read_entries-clause-answer
returns-in-Ok-read_entries-clause-answer g c = λ le.
    opened_ok shown c.args.size c.args.number (g.D.Disk.seen c.args.disk.now).told c.in-Ok.footer c.in-Ok-read_entries.entries _ le refl c.in-Ok.ensures.answer
    (subst (λ (t : Option Told). Answers (λ (es : List BlockEntry). es) (entries_found c.in-Ok.footer) c.args.number t (Ok c.in-Ok-read_entries.entries)) c.in-Ok.ensures.quiet.same c.in-Ok-read_entries.ensures.answer)

pub returns-in-Err-read_entries-clause-answer : goal.returns-in-Err-read_entries-clause-answer
returns-in-Err-read_entries-clause-answer g c = λ le.
    opened_no_entries shown c.args.size c.args.number (g.D.Disk.seen c.args.disk.now).told c.in-Ok.footer c.in-Err-read_entries.fault le c.in-Ok.ensures.answer
    (subst (λ (t : Option Told). Answers {A = List BlockEntry} (λ (es : List BlockEntry). es) (entries_found c.in-Ok.footer) c.args.number t (Err c.in-Err-read_entries.fault)) c.in-Ok.ensures.quiet.same c.in-Err-read_entries.ensures.answer)

pub returns-in-Err-clause-answer : goal.returns-in-Err-clause-answer
returns-in-Err-clause-answer g c = λ le. opened_no_footer shown c.args.size c.args.number (g.D.Disk.seen c.args.disk.now).told c.in-Err.fault le c.in-Err.ensures.answer
