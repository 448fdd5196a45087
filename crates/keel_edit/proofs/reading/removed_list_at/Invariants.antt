use Rattle.std.proofs.Common.{◌≡◌, ◌-◌}
use Rattle.keel_fields.specs.Reading.{many_at}
use Rattle.keel_fields.proofs.Loop.{with_front}
use Rattle.keel_edit.specs.Reading.{removed_at}
use Rattle.keel_edit.proofs.reading.removed_list_at.Given as goal

abbrev pub invariant-loop : goal.invariant-loop
invariant-loop l = with_front l.tables (many_at removed_at (l.count - l.counter) l.rest) ≡ many_at removed_at l.count l.bytes
