use Rattle.std.proofs.Common.{◌≡◌, None, subst, sym}
use Rattle.keel_space.specs.State.{SpaceState}
use Rattle.keel_space.specs.Tracked.{size_of}
use Rattle.keel_space.proofs.Files.{distinct-pushed}
use Rattle.keel_space.proofs.space.Space.track.Goals as goal

pub push-requires-clause-distinct : goal.push-requires-clause-distinct
push-requires-clause-distinct c =
    distinct-pushed c.self.inside.tracked.files.items (record { name = c.args.name; size = c.args.size })
    (subst (λ (space : SpaceState). size_of c.args.name space.tracked ≡ None) (sym c.self.view_is) c.requires.untracked) c.self.invariant.0.distinct
