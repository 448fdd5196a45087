use Rattle.std.proofs.Common.{take}
use Rattle.keel_listing.specs.Logs.{IsNextIn}
use Rattle.keel_listing.proofs.logs.next_log.Given as goal

-- the one that was chosen is the next of the files so far
abbrev pub invariant-loop-entry : goal.invariant-loop-entry
invariant-loop-entry l = IsNextIn (take l.entry-index l.listing) l.least l.chosen
