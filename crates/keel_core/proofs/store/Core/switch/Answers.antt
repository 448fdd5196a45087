use Rattle.std.proofs.Common.{rules, [], ◌∷◌, ◌++◌, ap, length, ◌∙◌, arith}
use Rattle.keel_disk.specs.declared.change.Change.TheVariants.{SyncDir}
use Rattle.keel_core.specs.declared.flight.Act.TheVariants.{SyncDirectory}
use Rattle.keel_core.specs.Boots.{boot_shown, levels_in}
use Rattle.keel_core.specs.Segments.{segments_shown}
use Rattle.keel_core.specs.Flights.{batches_flying, flying, log_shown}
use Rattle.keel_core.specs.Trails.{limbo_in, shown}
use Rattle.keel_core.specs.Views.{CoreView}
use Rattle.keel_core.proofs.Ordering.{switched_in_order}
use Rattle.keel_core.proofs.Segmenting.{have_ops, push_many, segments_shown-push}
use Rattle.keel_core.proofs.Standing.{IsInFlight, failed_goes, same_wanted, switch_goes, wants_goes}
use Rattle.keel_core.proofs.Calling.{quiet_want}
use Rattle.keel_core.proofs.store.Core.switch.Goals as goal

pub returns-then-len-ge-MANY_SEGMENTS-clause-turn : goal.returns-then-len-ge-MANY_SEGMENTS-clause-turn
returns-then-len-ge-MANY_SEGMENTS-clause-turn g c = wants_goes c.args.self.now c.args.self.now (same_wanted c.args.self.now)

pub invariant_of-self-in-Ok-sync_dir : goal.invariant_of-self-in-Ok-sync_dir
invariant_of-self-in-Ok-sync_dir g c =
    let w = c.self.inside in
    let q = c.move_on.ensures in
    let next = c.in-Ok.ensures in
    let after = c.replace-mem.ensures.after in
    let more = push_many c.reserve.new.self.items _ _ c.push_reserved.ensures.items in
    let same = ap (λ l. length l) c.reserve.ensures.items in
    switched_in_order w.mem c.replace-mem.new.dest w.trail w.queue c.move_on.new.self _ _ w.last_seq w.handed_seq w.next_file.number c.self.invariant
    (record { waiting = q.waiting; group = q.group; outcomes = q.outcomes; ticket = q.last_ticket; job = q.job })
    (omega (arith, same, more, c.len.ensures, c.if-len-ge-MANY_SEGMENTS.false))
    (rw after next.rows)
    (rw after next.bytes)
    (rw after next.entries)

pub returns-in-Ok-sync_dir-clause-turn : goal.returns-in-Ok-sync_dir-clause-turn
returns-in-Ok-sync_dir-clause-turn g c =
    let w = c.self.inside in
    let q = c.move_on.ensures in
    let next = c.in-Ok.ensures in
    let D = g.D.Disk in
    let old : CoreView = record {
      device = D.seen w.disk;
      options = w.options;
      boot = boot_shown w.boot;
      boot_job = w.boot_job;
      trail = shown w.trail;
      immutable = segments_shown w.segments.items;
      rows = w.mem.rows;
      log = log_shown w.log;
      levels = levels_in w.tables;
      waiting = w.queue.waiting.items;
      group = flying w.queue.group;
      outcomes = w.queue.outcomes.items;
      last_ticket = w.queue.last_ticket;
      job = w.queue.job;
      flush = w.flush;
      flush_job = w.flush_job;
      handler = w.handler;
      next_file = w.next_file.number;
      manifest = w.manifest;
    } in
    let segments =
    ap segments_shown c.push_reserved.ensures.items
    ∙ segments_shown-push c.reserve.new.self.items _
    ∙ (λ k. segments_shown (c.reserve.ensures.items k) ++ (record { rows = (c.replace-mem.ensures.value k).rows; logs = next.logs k }) ∷ []) in
    let flies : IsInFlight old (SyncDirectory c.args.log) = record {
      cleared = rw (← c.self.view_is) at c.requires.can.cleared;
      on_plan = rw (← c.self.view_is) at c.requires.can.on_plan;
      next = rw (← c.self.view_is) at c.requires.next;
      some = (have_ops (limbo_in w.trail) c.self.invariant.limbo, have_ops (batches_flying (flying w.queue.group)) c.self.invariant.group);
    } in
    rw (← c.self.view_is) (switch_goes old _ c.args.log _ _ _ _ _ _ _ _
    flies (search rules) segments (rw c.replace-mem.ensures.after next.rows) (ap (λ v. v.items) q.waiting) q.group (ap (λ v. v.items) q.outcomes) q.last_ticket q.job q.step)

pub returns-in-Err-Fault-clause-turn : goal.returns-in-Err-Fault-clause-turn
returns-in-Err-Fault-clause-turn g c =
    let w = c.self.inside in
    let D = g.D.Disk in
    let old : CoreView = record {
      device = D.seen w.disk;
      options = w.options;
      boot = boot_shown w.boot;
      boot_job = w.boot_job;
      trail = shown w.trail;
      immutable = segments_shown w.segments.items;
      rows = w.mem.rows;
      log = log_shown w.log;
      levels = levels_in w.tables;
      waiting = w.queue.waiting.items;
      group = flying w.queue.group;
      outcomes = w.queue.outcomes.items;
      last_ticket = w.queue.last_ticket;
      job = w.queue.job;
      flush = w.flush;
      flush_job = w.flush_job;
      handler = w.handler;
      next_file = w.next_file.number;
      manifest = w.manifest;
    } in
    let flies : IsInFlight old (SyncDirectory c.args.log) = record {
      cleared = rw (← c.self.view_is) at c.requires.can.cleared;
      on_plan = rw (← c.self.view_is) at c.requires.can.on_plan;
      next = rw (← c.self.view_is) at c.requires.next;
      some = (have_ops (limbo_in w.trail) c.self.invariant.limbo, have_ops (batches_flying (flying w.queue.group)) c.self.invariant.group);
    } in
    rw (c.give_up.ensures.view, c.give_up.ensures.step, ← c.self.view_is)
    (failed_goes old (record old { device = D.seen c.sync_dir.new.self; immutable = segments_shown c.reserve.new.self.items }) (SyncDirectory c.args.log) _ flies
    (record { calls = search rules; view_is = λ k. record old { device = D.seen c.sync_dir.new.self; immutable = segments_shown (c.reserve.ensures.items k) } }))

pub returns-clause-turn : goal.returns-clause-turn
returns-clause-turn g c =
    let w = c.self.inside in
    let D = g.D.Disk in
    let old : CoreView = record {
      device = D.seen w.disk;
      options = w.options;
      boot = boot_shown w.boot;
      boot_job = w.boot_job;
      trail = shown w.trail;
      immutable = segments_shown w.segments.items;
      rows = w.mem.rows;
      log = log_shown w.log;
      levels = levels_in w.tables;
      waiting = w.queue.waiting.items;
      group = flying w.queue.group;
      outcomes = w.queue.outcomes.items;
      last_ticket = w.queue.last_ticket;
      job = w.queue.job;
      flush = w.flush;
      flush_job = w.flush_job;
      handler = w.handler;
      next_file = w.next_file.number;
      manifest = w.manifest;
    } in
    rw (← c.self.view_is) (wants_goes old (record old { device = D.seen c.sync_dir.new.self; immutable = segments_shown c.reserve.new.self.items })
    (record { quiet = quiet_want SyncDir _ _ (search rules); view_is = λ k. record old { device = D.seen c.sync_dir.new.self; immutable = segments_shown (c.reserve.ensures.items k) } }))
