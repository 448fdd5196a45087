use Rattle.std.proofs.Common.{◌≡◌, ◌+◌, Some, subst, sym, ap, ◌∙◌}
use Rattle.std.specs.Prelude.{slice_get}
use Rattle.keel_region.specs.Order.{AreInOrder}
use Rattle.keel_region.specs.Shown.{IndexShown}
use Rattle.keel_region.specs.Trees.{walk, tree_at, is_up_to}
use Rattle.keel_region.proofs.Descending.{failing_at, behind_at}
use Rattle.keel_region.proofs.index.Index.after.Goals as goal

pub returns : goal.returns
returns c = λ k is.
    let bytes = c.args.region.now.bytes in
    let entry = c.args.entry.now in
    let tree = tree_at c.self.inside.pool.slots c.self.inside.root in
    let order : AreInOrder bytes (walk tree) = subst (λ (s : IndexShown). AreInOrder bytes s.entries) (sym c.self.view_is) c.requires.order in
    let here : slice_get (walk tree) k ≡ Some entry = ap (λ (s : IndexShown). slice_get s.entries k) c.self.view_is ∙ is in
    c.behind.ensures tree c.self.invariant.stands c.self.invariant.rooted order
    ∙ failing_at (is_up_to bytes entry) (walk tree) (k + 1) (behind_at bytes (walk tree) entry k order here)
    ∙ ap (λ (s : IndexShown). slice_get s.entries (k + 1)) c.self.view_is
