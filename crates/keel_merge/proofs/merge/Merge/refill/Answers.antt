use Rattle.std.proofs.Common.{refl}
use Rattle.keel_merge.proofs.Refilling.{feeds}
use Rattle.keel_merge.proofs.merge.Merge.refill.Goals as goal

pub returns-clause-after : goal.returns-clause-after
returns-clause-after c = rw (← c.self.view_is, c.new.ensures) refl

pub returns-clause-feeds : goal.returns-clause-feeds
returns-clause-feeds c = λ coming behind may next.
    feeds c.args.self.now _ c.args.list c.args.rows behind c.args.more coming c.requires (returns-clause-after c) may next
