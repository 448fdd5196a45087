use Rattle.std.proofs.Common.{◌∷◌}
use Rattle.keel_core.specs.Boots.{boot_shown, levels_in}
use Rattle.keel_core.specs.Segments.{segments_shown}
use Rattle.keel_core.specs.Flights.{flying, log_shown}
use Rattle.keel_core.specs.Trails.{shown}
use Rattle.keel_core.specs.Views.{CoreView}
use Rattle.keel_core.proofs.BootJobs.{goes_on_way, log_at_end}
use Rattle.keel_core.proofs.Closings.{cleared_closed, failed_closed, moved_closed}
use Rattle.keel_core.proofs.store.Core.advance.Goals as goal

pub invariant_of-running : goal.invariant_of-running
invariant_of-running g c =
    let m = c.in-Moved.ensures in
    record {
      going = m.goes_on;
      way = goes_on_way m.act (m.another ∷ m.later) _ _ _ c.running.invariant.way m.made.next m.made.job_is m.made.left;
    }

pub clear-requires-clause-log : goal.clear-requires-clause-log
clear-requires-clause-log g c =
    let m = c.in-Done.ensures in
    log_at_end m.act _ _ _ c.running.invariant.way m.made.next m.made.job_is

pub returns-in-Moved : goal.returns-in-Moved
returns-in-Moved g c =
    let w = c.self.inside in
    let D = g.D.Disk in
    let old : CoreView = record {
      device = D.seen w.disk;
      options = w.options;
      boot = boot_shown w.boot;
      boot_job = w.boot_job;
      trail = shown w.trail;
      immutable = segments_shown w.segments.items;
      rows = w.mem.rows;
      log = log_shown w.log;
      levels = levels_in w.tables;
      waiting = w.queue.waiting.items;
      group = flying w.queue.group;
      outcomes = w.queue.outcomes.items;
      last_ticket = w.queue.last_ticket;
      job = w.queue.job;
      flush = w.flush;
      flush_job = w.flush_job;
      handler = w.handler;
      next_file = w.next_file.number;
      manifest = w.manifest;
    } in
    rw (c.take_over.ensures, ← c.self.view_is, ← c.running.view_is) (tt, moved_closed old c.args.number c.args.booted c.running.inside.steps _ _ c.args.closing c.in-Moved.call c.in-Moved.ensures)

pub returns-in-Done : goal.returns-in-Done
returns-in-Done g c =
    let w = c.self.inside in
    let D = g.D.Disk in
    let old : CoreView = record {
      device = D.seen w.disk;
      options = w.options;
      boot = boot_shown w.boot;
      boot_job = w.boot_job;
      trail = shown w.trail;
      immutable = segments_shown w.segments.items;
      rows = w.mem.rows;
      log = log_shown w.log;
      levels = levels_in w.tables;
      waiting = w.queue.waiting.items;
      group = flying w.queue.group;
      outcomes = w.queue.outcomes.items;
      last_ticket = w.queue.last_ticket;
      job = w.queue.job;
      flush = w.flush;
      flush_job = w.flush_job;
      handler = w.handler;
      next_file = w.next_file.number;
      manifest = w.manifest;
    } in
    rw (c.clear.ensures, c.take_over-in-Done.ensures, ← c.self.view_is, ← c.running.view_is) (tt, cleared_closed old c.args.number c.args.booted c.running.inside.steps _ _ c.args.closing c.in-Done.ensures)

pub returns-in-Failed : goal.returns-in-Failed
returns-in-Failed g c =
    let w = c.self.inside in
    let D = g.D.Disk in
    let old : CoreView = record {
      device = D.seen w.disk;
      options = w.options;
      boot = boot_shown w.boot;
      boot_job = w.boot_job;
      trail = shown w.trail;
      immutable = segments_shown w.segments.items;
      rows = w.mem.rows;
      log = log_shown w.log;
      levels = levels_in w.tables;
      waiting = w.queue.waiting.items;
      group = flying w.queue.group;
      outcomes = w.queue.outcomes.items;
      last_ticket = w.queue.last_ticket;
      job = w.queue.job;
      flush = w.flush;
      flush_job = w.flush_job;
      handler = w.handler;
      next_file = w.next_file.number;
      manifest = w.manifest;
    } in
    rw (c.take_over-in-Failed.ensures, c.note.ensures, c.resting.ensures, ← c.self.view_is, ← c.running.view_is) (tt, failed_closed old c.args.number c.args.booted c.running.inside.steps _ _ c.args.closing c.in-Failed.failure c.in-Failed.ensures)
