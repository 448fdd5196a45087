use Rattle.std.proofs.Common.{option_map, ap, ◌∙◌}
use Rattle.keel_machine.specs.States.{new_log}
use Rattle.keel_core.specs.Boots.{boot_shown, levels_in}
use Rattle.keel_core.specs.Segments.{segments_shown}
use Rattle.keel_core.specs.Flights.{flying, log_shown}
use Rattle.keel_core.specs.Tables.{lives_of}
use Rattle.keel_core.specs.Trails.{shown}
use Rattle.keel_core.specs.Views.{CoreView, Cleared}
use Rattle.keel_core.proofs.store.Core.clear.Goals as goal

pub returns : goal.returns
returns g c =
    let w = c.self.inside in
    let D = g.D.Disk in
    let old : CoreView = record {
      device = D.seen w.disk;
      options = w.options;
      boot = boot_shown w.boot;
      boot_job = w.boot_job;
      trail = shown w.trail;
      immutable = segments_shown w.segments.items;
      rows = w.mem.rows;
      log = log_shown w.log;
      levels = levels_in w.tables;
      waiting = w.queue.waiting.items;
      group = flying w.queue.group;
      outcomes = w.queue.outcomes.items;
      last_ticket = w.queue.last_ticket;
      job = w.queue.job;
      flush = w.flush;
      flush_job = w.flush_job;
      handler = w.handler;
      next_file = w.next_file.number;
      manifest = w.manifest;
    } in
    let entries = c.new.ensures.entries ∙ c.into_tables.ensures in
    rw (← c.self.view_is) (λ i. record old {
      boot = Cleared;
      trail = c.clear-2.ensures.shown i;
      immutable = ap segments_shown c.clear.ensures.items i;
      rows = (rw (← c.self.view_is) at c.requires.rows) i;
      log = (c.log_of-self-inside.ensures.shown ∙ ap (option_map new_log) c.log.ensures) i;
      levels = lives_of (c.new.ensures.none i) (entries i);
      handler = c.clear-3.ensures.value i;
    })
