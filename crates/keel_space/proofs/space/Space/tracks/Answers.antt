use Rattle.keel_space.proofs.Files.{found_is_tracked}
use Rattle.keel_space.proofs.space.Space.tracks.Goals as goal

pub returns-clause-tracked : goal.returns-clause-tracked
returns-clause-tracked c =
    rw (c.is_some.ensures, ← c.self.view_is)
    (found_is_tracked c.args.name c.self.inside.tracked.files.items c.find.result (rw c.as_slice.ensures.value at c.find.ensures.found) (rw c.as_slice.ensures.value at c.find.ensures.first) (rw c.as_slice.ensures.value at c.find.ensures.none))
