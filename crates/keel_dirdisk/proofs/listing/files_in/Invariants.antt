use Rattle.keel_name.specs.Sorting.{AreNames}
use Rattle.keel_dirdisk.proofs.listing.files_in.Given as goal

abbrev pub invariant-loop-entry : goal.invariant-loop-entry
invariant-loop-entry g l = AreNames l.files.items
