use Rattle.std.proofs.Common.{◌≡◌, drop}
use Rattle.keel_open.specs.Listed.{first_listed}
use Rattle.keel_open.proofs.listing.first_used.Given as goal

-- the first one in use stands among the files that are left
abbrev pub invariant-files : goal.invariant-files
invariant-files l = first_listed l.listing ≡ first_listed (drop l.entry-index l.listing)
