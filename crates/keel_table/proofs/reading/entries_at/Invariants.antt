use Rattle.std.proofs.Common.{◌≡◌, ◌≤◌, ◌-◌, None}
use Rattle.keel_table.specs.Fields.{entries_at, last_of}
use Rattle.keel_table.proofs.Loops.{behind}
use Rattle.keel_table.proofs.reading.entries_at.Given as goal

abbrev pub invariant-loop : goal.invariant-loop
invariant-loop l = (behind l.entries (entries_at l.index (l.blocks - l.counter) l.offset (last_of None l.entries) l.rest) ≡ entries_at l.index l.blocks 0 None l.bytes) × (l.offset ≤ l.index)
