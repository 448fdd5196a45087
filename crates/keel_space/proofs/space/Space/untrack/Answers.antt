use Rattle.std.proofs.Common.{◌≡◌, ◌+◌, ◌-◌, vec_len, refl, arith}
use Rattle.std.specs.Prelude.{vec_capacity}
use Rattle.keel_space.specs.Places.{IsPlaceOf}
use Rattle.keel_space.proofs.Files.{distinct-without, without-there}
use Rattle.keel_space.proofs.space.Space.untrack.Goals as goal

pub remove-requires-clause-distinct : goal.remove-requires-clause-distinct
remove-requires-clause-distinct c =
    let files = c.self.inside.tracked.files.items in
    let there : IsPlaceOf c.args.name files c.place_of-place.result = rw c.as_slice.ensures.value at c.place_of-place.ensures in
    rw (without-there c.args.name files c.place_of-place.result there) (distinct-without c.args.name files c.self.invariant.0.distinct)

pub returns : goal.returns
returns c =
    let files = c.self.inside.tracked.files in
    let there : IsPlaceOf c.args.name files.items c.place_of-place.result = rw c.as_slice.ensures.value at c.place_of-place.ensures in
    let spare : vec_capacity c.remove.new.self.files - vec_len c.remove.new.self.files ≡ (vec_capacity files - vec_len files) + 1 = omega arith in
    rw (← c.self.view_is, c.remove.ensures.items, without-there c.args.name files.items c.place_of-place.result there, spare) refl
