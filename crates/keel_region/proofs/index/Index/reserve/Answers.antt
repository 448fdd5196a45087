use Rattle.std.proofs.Common.{ap, ◌∙◌}
use Rattle.keel_region.specs.Shown.{IndexShown}
use Rattle.keel_region.specs.Trees.{walk}
use Rattle.keel_region.proofs.Indexing.{more_room, more_index}
use Rattle.keel_region.proofs.index.Index.reserve.Goals as goal

pub invariant_of-self-2 : goal.invariant_of-self-2
invariant_of-self-2 c =
    more_index c.self.inside.pool.slots c.reserve.new.self.slots c.self.inside.pool.spare c.reserve.new.self.spare c.self.inside.root c.self.invariant
    c.reserve.ensures.nodes c.reserve.ensures.length c.reserve.ensures.spare

pub returns-clause-entries : goal.returns-clause-entries
returns-clause-entries c =
    ap walk (more_room c.self.inside.pool.slots c.reserve.new.self.slots c.self.inside.pool.spare c.reserve.new.self.spare c.self.inside.root c.self.invariant
    c.reserve.ensures.nodes c.reserve.ensures.length c.reserve.ensures.spare)
    ∙ ap (λ (s : IndexShown). s.entries) c.self.view_is
