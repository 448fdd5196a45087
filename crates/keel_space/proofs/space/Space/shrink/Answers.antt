use Rattle.std.proofs.Common.{refl}
use Rattle.keel_space.specs.Places.{IsPlaceOf}
use Rattle.keel_space.proofs.Files.{distinct-resized, resized-there}
use Rattle.keel_space.proofs.space.Space.shrink.Goals as goal

pub set-requires-clause-distinct : goal.set-requires-clause-distinct
set-requires-clause-distinct c =
    let files = c.self.inside.tracked.files.items in
    let there : IsPlaceOf c.args.name files c.place_of-place.result = rw c.as_slice.ensures.value at c.place_of-place.ensures in
    rw (resized-there c.args.name c.args.size files c.place_of-place.result there) (distinct-resized c.args.name c.args.size files c.self.invariant.0.distinct)

pub returns : goal.returns
returns c =
    let files = c.self.inside.tracked.files.items in
    let there : IsPlaceOf c.args.name files c.place_of-place.result = rw c.as_slice.ensures.value at c.place_of-place.ensures in
    rw (← c.self.view_is, c.set.ensures.items, resized-there c.args.name c.args.size files c.place_of-place.result there, c.set.ensures.len, c.set.ensures.capacity) refl
