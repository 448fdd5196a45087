use Rattle.std.proofs.Common.{ap}
use Rattle.keel_region.specs.Trees.{walk}
use Rattle.keel_region.proofs.Indexing.{empty_tree, empty_index}
use Rattle.keel_region.proofs.index.Index.new.Goals as goal

pub invariant_of-result : goal.invariant_of-result
invariant_of-result c = empty_index c.new.result.slots c.new.result.spare c.new.ensures.nodes c.new.ensures.length c.new.ensures.spare

pub returns-clause-entries : goal.returns-clause-entries
returns-clause-entries c = ap walk (empty_tree c.new.result.slots)
