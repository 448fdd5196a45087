use Rattle.std.proofs.Common.{ap, ◌∙◌}
use Rattle.std.specs.Prelude.{slice_get}
use Rattle.keel_region.specs.Shown.{IndexShown}
use Rattle.keel_region.specs.Trees.{walk, tree_at}
use Rattle.keel_region.proofs.Descending.{failing_first}
use Rattle.keel_region.proofs.Indexing.{has_tree}
use Rattle.keel_region.proofs.index.Index.first.Goals as goal

pub leftmost-requires : goal.leftmost-requires
leftmost-requires c = has_tree (λ entry. Unit {0}) c.self.inside.pool.slots c.self.inside.pool.spare c.self.inside.root c.self.invariant (λ k d lt. tt)

pub returns : goal.returns
returns c =
    let tree = tree_at c.self.inside.pool.slots c.self.inside.root in
    c.leftmost.ensures tree c.self.invariant.stands c.self.invariant.rooted
    ∙ failing_first (walk tree)
    ∙ ap (λ (s : IndexShown). slice_get s.entries 0) c.self.view_is
