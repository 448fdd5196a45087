use Rattle.std.proofs.Common.{◌≡◌, None, subst, sym, refl}
use Rattle.keel_space.specs.State.{SpaceState}
use Rattle.keel_space.specs.Tracked.{size_of}
use Rattle.keel_space.specs.Places.{IsPlaceOf}
use Rattle.keel_space.proofs.Files.{distinct-renamed, renamed-there}
use Rattle.keel_space.proofs.space.Space.move_name.Goals as goal

pub set-requires-clause-distinct : goal.set-requires-clause-distinct
set-requires-clause-distinct c =
    let files = c.self.inside.tracked.files.items in
    let there : IsPlaceOf c.args.from files c.place_of-place.result = rw c.as_slice.ensures.value at c.place_of-place.ensures in
    let untracked : size_of c.args.to files ≡ None = subst (λ (space : SpaceState). size_of c.args.to space.tracked ≡ None) (sym c.self.view_is) c.requires.untracked in
    rw (renamed-there c.args.from c.args.to files c.place_of-place.result c.index.result.now there c.index.ensures) (distinct-renamed c.args.from c.args.to files untracked c.self.invariant.0.distinct)

pub returns : goal.returns
returns c =
    let files = c.self.inside.tracked.files.items in
    let there : IsPlaceOf c.args.from files c.place_of-place.result = rw c.as_slice.ensures.value at c.place_of-place.ensures in
    rw (← c.self.view_is, c.set.ensures.items, renamed-there c.args.from c.args.to files c.place_of-place.result c.index.result.now there c.index.ensures, c.set.ensures.len, c.set.ensures.capacity) refl
