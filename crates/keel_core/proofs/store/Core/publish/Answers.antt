use Rattle.std.proofs.Common.{◌+◌, ◌++◌, length, ap, sym, ◌∙◌, arith}
use Rattle.keel_machine.specs.declared.steps.WriteStep.TheVariants as step
use Rattle.keel_machine.specs.Admission.{ops_of}
use Rattle.keel_draft.specs.Drafts.{batch_rows, count_ops}
use Rattle.keel_core.specs.Trails.{shown}
use Rattle.keel_core.specs.Steps.{all_published}
use Rattle.keel_core.specs.Views.{CoreView, last_in}
use Rattle.keel_core.specs.Placing.{bytes_needed}
use Rattle.keel_core.specs.Boots.{boot_shown, levels_in}
use Rattle.keel_core.specs.Segments.{segments_shown}
use Rattle.keel_core.specs.Flights.{flying, log_shown, tickets_flying}
use Rattle.keel_core.proofs.Ordering.{done_settled, published_in_order, published_view, seq_published}
use Rattle.keel_core.proofs.store.Core.publish.Goals as goal

pub invariant_of-self : goal.invariant_of-self
invariant_of-self g c =
    let w = c.self.inside in
    let t = c.publish.ensures in
    published_in_order w.mem c.place.new.mem w.trail c.publish.new.self w.queue c.settle_done.new.self _ w.last_seq w.handed_seq w.next_file.number c.args.sync _ c.self.invariant
    (record {
      waiting = ap (λ v. v.items) c.settle_done.ensures.waiting;
      group = c.settle_done.ensures.group;
      added = c.settle_done.ensures.outcomes;
      len = c.settle_done.ensures.len;
      room = c.settle_done.ensures.room;
      ticket = c.settle_done.ensures.last_ticket;
      job = c.settle_done.ensures.job;
    })
    (done_settled w.last_seq (tickets_flying (flying w.queue.group)) (ops_of c.limbo-2.result.now))
    (record { shows = t.shown; limbo = t.limbo; len = t.count; room = t.room })
    (record {
      rows = c.place.ensures.rows ∙ (λ k. w.mem.rows ++ batch_rows (c.self.invariant.seq k + 1) (ops_of (c.limbo.ensures k)));
      bytes = omega (arith, c.place.ensures.bytes, ap (λ l. bytes_needed (ops_of l)) c.limbo.ensures);
      entries = omega (arith, c.place.ensures.entries, ap (λ l. count_ops (ops_of l)) c.limbo.ensures);
    })

pub returns-clause-view : goal.returns-clause-view
returns-clause-view g c =
    let w = c.self.inside in
    let q = c.settle_done.ensures in
    let group = ap flying q.group in
    let waiting = ap (λ v. v.items) q.waiting in
    let rows = c.place.ensures.rows ∙ (λ k. w.mem.rows ++ batch_rows (w.last_seq + 1) (ops_of ((c.limbo.ensures ∙ sym c.limbo-2.ensures) k))) in
    let D = g.D.Disk in
    let old : CoreView = record {
      device = D.seen w.disk;
      options = w.options;
      boot = boot_shown w.boot;
      boot_job = w.boot_job;
      trail = shown w.trail;
      immutable = segments_shown w.segments.items;
      rows = w.mem.rows;
      log = log_shown w.log;
      levels = levels_in w.tables;
      waiting = w.queue.waiting.items;
      group = flying w.queue.group;
      outcomes = w.queue.outcomes.items;
      last_ticket = w.queue.last_ticket;
      job = w.queue.job;
      flush = w.flush;
      flush_job = w.flush_job;
      handler = w.handler;
      next_file = w.next_file.number;
      manifest = w.manifest;
    } in
    rw (← c.self.view_is) (published_view c.args.sync old _ _ _ _ _ _ _ w.last_seq (ops_of c.limbo-2.result.now) c.publish.ensures.shown rows waiting group q.outcomes q.last_ticket q.job c.self.invariant.seq (ap ops_of c.limbo-2.ensures))

pub returns-clause-step : goal.returns-clause-step
returns-clause-step g c =
    let w = c.self.inside in
    let seq = seq_published (shown w.trail) c.args.sync w.last_seq w.handed_seq c.self.invariant.seq c.self.invariant.handed in
    let reached = seq ∙ ap (λ (v : CoreView). last_in (all_published c.args.sync v)) c.self.view_is in
    let job = c.settle_done.ensures.job ∙ ap (λ (v : CoreView). v.job) c.self.view_is in
    let count = c.in_flight-batches.ensures ∙ ap (λ (v : CoreView). length (tickets_flying v.group)) c.self.view_is in
    λ i. step.Done (job i) (reached i) (count i)
