use Rattle.std.proofs.Common.{◌≡◌, take}
use Rattle.std.specs.Prelude.{map}
use Rattle.keel_levels.proofs.Turning.{closed}
use Rattle.keel_levels.proofs.levels.Levels.new.Given as goal

abbrev pub invariant-entries : goal.invariant-entries
invariant-entries l = l.tables.items ≡ map closed (take l.entry-index l.entries)
