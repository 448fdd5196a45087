use Rattle.std.proofs.Common.{◌-◌, List, ℕ}
use Rattle.keel_table.specs.declared.index.Footer.{Footer}
use Rattle.keel_table.specs.Fields.{footer_at}
use Rattle.keel_table.specs.Opening.{checked_at, footer_of_size, footer_found}
use Rattle.keel_table.proofs.Composing.{found_behind, failed_behind}
use Rattle.keel_table.proofs.opening.read_footer.Goals as goal

pub returns-in-Ok-clause-answer : goal.returns-in-Ok-clause-answer
unfolding footer_found
returns-in-Ok-clause-answer g c =
    found_behind (λ (f : Footer). f) (checked_at (c.args.size - 48) 44) (λ (body : List ℕ). footer_of_size c.args.size (footer_at body)) c.args.number (g.D.Disk.seen c.args.disk.now).told c.in-Ok.body c.footer_of_size.result
    c.in-Ok.ensures.answer (rw c.as_slice.ensures at c.footer_of_size.ensures.found)

pub returns-in-Err-clause-answer : goal.returns-in-Err-clause-answer
unfolding footer_found
returns-in-Err-clause-answer g c =
    failed_behind (λ (f : Footer). f) (checked_at (c.args.size - 48) 44) (λ (_ body : List ℕ). footer_of_size c.args.size (footer_at body)) c.args.number (g.D.Disk.seen c.args.disk.now).told c.in-Err.fault c.in-Err.ensures.answer
