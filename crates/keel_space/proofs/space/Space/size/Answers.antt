use Rattle.std.proofs.Common.{sym}
use Rattle.keel_space.specs.Places.{IsAt, HaveOther}
use Rattle.std.proofs.Common.{take}
use Rattle.keel_space.proofs.Files.{size_of-at, size_of-none}
use Rattle.keel_space.proofs.space.Space.size.Goals as goal

pub returns-in-Some : goal.returns-in-Some
returns-in-Some c =
    let files = c.self.inside.tracked.files.items in
    let at : IsAt c.args.name files c.in-Some.place = rw c.as_slice.ensures.value at c.in-Some.ensures.found in
    let first : HaveOther c.args.name (take c.in-Some.place files) = rw c.as_slice.ensures.value at c.in-Some.ensures.first in
    rw (← c.self.view_is)
    (sym (size_of-at c.args.name files c.in-Some.place c.index.result.now at first c.index.ensures))

pub returns-in-None : goal.returns-in-None
returns-in-None c =
    rw (← c.self.view_is)
    (sym (size_of-none c.args.name c.self.inside.tracked.files.items (rw c.as_slice.ensures.value at c.in-None.ensures.none)))
