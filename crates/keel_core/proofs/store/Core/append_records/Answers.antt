use Rattle.std.proofs.Common.{ap, arith}
use Rattle.keel_machine.specs.Admission.{ops_of}
use Rattle.keel_draft.specs.Drafts.{count_ops}
use Rattle.keel_core.specs.Flights.{flying}
use Rattle.keel_core.proofs.Batches.{next_count}
use Rattle.keel_core.proofs.store.Core.append_records.Goals as goal

pub records_of-requires-clause-numbers : goal.records_of-requires-clause-numbers
records_of-requires-clause-numbers g c =
    let w = c.self.inside in
    let order = c.self.invariant in
    let next = next_count w.queue.waiting.items (flying w.queue.group) in
    let same = ap (λ l. count_ops (ops_of l)) c.next_batches.ensures.batches in
    omega (arith, next, same, order.enough, order.handed)
