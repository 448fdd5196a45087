use Rattle.std.proofs.Common.{◌≡◌, ◌+◌, drop}
use Rattle.keel_version.specs.Applying.{each_fits, put_on}
use Rattle.keel_version.proofs.entries.with_added.Given as goal

abbrev pub invariant-loop-place : goal.invariant-loop-place
invariant-loop-place l = each_fits put_on (l.first + l.place) (drop l.place l.added) l.tables.items ≡ each_fits put_on l.first l.added l.fn.tables.items
