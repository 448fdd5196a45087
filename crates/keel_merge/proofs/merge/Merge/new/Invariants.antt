use Rattle.std.proofs.Common.{◌≡◌, replicate}
use Rattle.keel_merge.specs.Feeding.{wanting}
use Rattle.keel_merge.proofs.merge.Merge.new.Given as goal

abbrev pub invariant-lists : goal.invariant-lists
invariant-lists l = l.lists.items ≡ replicate l._place wanting
