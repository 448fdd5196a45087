use Rattle.std.proofs.Common.{arith}
use Rattle.keel_core.proofs.Stories.{no_limbo, whole_length, whole_log}
use Rattle.keel_core.proofs.trail.Trail.publish.Goals as goal

pub returns-then-sync-clause-shown : goal.returns-then-sync-clause-shown
returns-then-sync-clause-shown c =
    let t = c.args.self.now in
    rw c.if-sync.true (λ i. record {
      start = t.start;
      log = whole_log t.batches.items t.published c.len-self.result (omega (arith, c.len-self.ensures)) i;
      limbo = no_limbo t.batches.items c.len-self.result (omega (arith, c.len-self.ensures)) i;
      floor = whole_length t.batches.items t.published c.len-self.result (omega (arith, c.len-self.ensures)) i;
    })

pub returns-else-sync-clause-shown : goal.returns-else-sync-clause-shown
returns-else-sync-clause-shown c =
    let t = c.args.self.now in
    rw c.if-sync.false (λ i. record {
      start = t.start;
      log = whole_log t.batches.items t.published c.len-self.result (omega (arith, c.len-self.ensures)) i;
      limbo = no_limbo t.batches.items c.len-self.result (omega (arith, c.len-self.ensures)) i;
      floor = t.floor;
    })
