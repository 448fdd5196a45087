use Rattle.keel_core.specs.Boots.{boot_shown, levels_in}
use Rattle.keel_core.specs.Segments.{segments_shown}
use Rattle.keel_core.specs.Flights.{flying, log_shown}
use Rattle.keel_core.specs.Trails.{shown}
use Rattle.keel_core.specs.Views.{CoreView}
use Rattle.keel_core.proofs.FlushSteps.{ended_goes, failed_goes}
use Rattle.keel_core.proofs.store.Core.end_flush.Goals as goal

pub returns-in-Done : goal.returns-in-Done
returns-in-Done g c =
    let w = c.self.inside in
    let D = g.D.Disk in
    let old : CoreView = record {
      device = D.seen w.disk;
      options = w.options;
      boot = boot_shown w.boot;
      boot_job = w.boot_job;
      trail = shown w.trail;
      immutable = segments_shown w.segments.items;
      rows = w.mem.rows;
      log = log_shown w.log;
      levels = levels_in w.tables;
      waiting = w.queue.waiting.items;
      group = flying w.queue.group;
      outcomes = w.queue.outcomes.items;
      last_ticket = w.queue.last_ticket;
      job = w.queue.job;
      flush = w.flush;
      flush_job = w.flush_job;
      handler = w.handler;
      next_file = w.next_file.number;
      manifest = w.manifest;
    } in
    let cleared = rw (← c.self.view_is) at c.requires.cleared in
    let none = rw (← c.self.view_is) at c.requires.none in
    let tables = rw (← c.self.view_is) at c.in-Ok.ensures in
    rw (c.leave_oldest.ensures, ← c.self.view_is, ← c.running.view_is) (tt, ended_goes old c.args.number _ _ cleared none c.in-Ok.tables tables c.in-Done.ensures)

pub returns-in-Failed : goal.returns-in-Failed
returns-in-Failed g c =
    let w = c.self.inside in
    let D = g.D.Disk in
    let old : CoreView = record {
      device = D.seen w.disk;
      options = w.options;
      boot = boot_shown w.boot;
      boot_job = w.boot_job;
      trail = shown w.trail;
      immutable = segments_shown w.segments.items;
      rows = w.mem.rows;
      log = log_shown w.log;
      levels = levels_in w.tables;
      waiting = w.queue.waiting.items;
      group = flying w.queue.group;
      outcomes = w.queue.outcomes.items;
      last_ticket = w.queue.last_ticket;
      job = w.queue.job;
      flush = w.flush;
      flush_job = w.flush_job;
      handler = w.handler;
      next_file = w.next_file.number;
      manifest = w.manifest;
    } in
    let cleared = rw (← c.self.view_is) at c.requires.cleared in
    let none = rw (← c.self.view_is) at c.requires.none in
    rw (c.note.ensures, ← c.self.view_is, ← c.running.view_is) (tt, failed_goes old c.args.number _ _ cleared none c.in-Failed.failure c.in-Failed.ensures)
