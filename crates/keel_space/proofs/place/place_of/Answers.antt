use Rattle.std.proofs.lemmas.Bool.{false≢true}
use Rattle.keel_space.proofs.Files.{size_of-none}
use Rattle.keel_space.proofs.place.place_of.Goals as goal

pub returns-in-None : goal.returns-in-None
returns-in-None c =
    absurd (false≢true (rw (size_of-none c.args.name c.args.files.now c.in-None.ensures.none) at c.requires))
