use Rattle.std.proofs.Common.{◌≡◌, ◌≤◌, drop, length}
use Rattle.keel_directory.specs.TableFiles.{least}
use Rattle.keel_open.specs.TableAnswers.{is_unlisted, number_found}
use Rattle.keel_open.proofs.tables.least_missing.Given as goal

abbrev pub invariant-tables : goal.invariant-tables
invariant-tables l = (l.left ≤ length l.tables) × (l.found ≡ number_found (least (is_unlisted l.listing) (drop l.left l.tables)))

abbrev pub decreases-tables : goal.decreases-tables
decreases-tables l = l.left
