use Rattle.std.proofs.Common.{◌≡◌, drop}
use Rattle.keel_disk.specs.Listings.{size_listed}
use Rattle.keel_open.proofs.tables.size_of.Given as goal

abbrev pub invariant-files : goal.invariant-files
invariant-files l = size_listed l.name l.listing ≡ size_listed l.name (drop l.entry-index l.listing)
