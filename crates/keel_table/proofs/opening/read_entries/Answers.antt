use Rattle.std.proofs.Common.{List, ℕ}
use Rattle.keel_table.specs.declared.index.BlockEntry.{BlockEntry}
use Rattle.keel_table.specs.Opening.{checked_at, entries_in, entries_found}
use Rattle.keel_table.proofs.Composing.{found_behind, failed_behind}
use Rattle.keel_table.proofs.opening.read_entries.Goals as goal

pub returns-in-Ok-clause-answer : goal.returns-in-Ok-clause-answer
unfolding entries_found
returns-in-Ok-clause-answer g c =
    found_behind (λ (es : List BlockEntry). es) (checked_at c.args.footer.index c.args.footer.size) (entries_in c.args.footer) c.args.number (g.D.Disk.seen c.args.disk.now).told c.in-Ok.index c.entries_in.result
    c.in-Ok.ensures.answer (rw c.as_slice.ensures at c.entries_in.ensures.found)

pub returns-in-Err-clause-answer : goal.returns-in-Err-clause-answer
unfolding entries_found
returns-in-Err-clause-answer g c =
    failed_behind (λ (es : List BlockEntry). es) (checked_at c.args.footer.index c.args.footer.size) (λ (_ : List ℕ). entries_in c.args.footer) c.args.number (g.D.Disk.seen c.args.disk.now).told c.in-Err.fault c.in-Err.ensures.answer
