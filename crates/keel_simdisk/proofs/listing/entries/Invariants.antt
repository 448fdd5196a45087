use Rattle.std.proofs.Common.{◌≡◌, map, take}
use Rattle.keel_simdisk.specs.Listings.{entry_in}
use Rattle.keel_simdisk.proofs.listing.entries.Given as goal

abbrev pub invariant-loop-named : goal.invariant-loop-named
invariant-loop-named l = l.entries.items ≡ map (entry_in l.files) (take l.named-index l.names)
