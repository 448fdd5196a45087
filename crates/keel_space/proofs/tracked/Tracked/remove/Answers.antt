use Rattle.keel_space.proofs.Sums.{sums-removed}
use Rattle.keel_space.proofs.tracked.Tracked.remove.Goals as goal

pub returns-clause-sums : goal.returns-clause-sums
returns-clause-sums c =
    rw (c.remove-file.ensures.items, c.trash_size.ensures)
    (sums-removed c.args.self.now.files.items c.args.self.now.total c.args.self.now.trash c.args.place c.remove-file.result c.requires.within c.remove-file.ensures.value c.requires.sums c.requires.distinct).2
