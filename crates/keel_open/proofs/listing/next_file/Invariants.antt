use Rattle.std.proofs.Common.{take}
use Rattle.keel_open.specs.NextFiles.{IsNextFile}
use Rattle.keel_open.proofs.listing.next_file.Given as goal

abbrev pub invariant-files : goal.invariant-files
invariant-files l = IsNextFile (take l.entry-index l.listing) l.floor l.next
