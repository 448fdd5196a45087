use Rattle.std.proofs.Common.{sym, ap, ◌∙◌, ◌+◌, [], ◌∷◌, ◌++◌, arith}
use Rattle.keel_group.specs.Queue.{ticketed}
use Rattle.keel_core.specs.Boots.{boot_shown, levels_in}
use Rattle.keel_core.specs.Segments.{segments_shown}
use Rattle.keel_core.specs.Flights.{flying, log_shown}
use Rattle.keel_core.specs.Trails.{shown}
use Rattle.keel_core.specs.Views.{CoreView}
use Rattle.keel_core.proofs.Admitting.{queued_goes, stopped_goes, where_ok, seq_spent, ticket_spent, store_full, queue_full}
use Rattle.keel_core.proofs.Ordering.{joined_in_order}
use Rattle.keel_core.proofs.Segmenting.{shown_many}
use Rattle.keel_core.proofs.Limits.{admissible, bad_size_goes}
use Rattle.keel_core.proofs.store.Core.admit.Goals as goal

pub returns-in-Some : goal.returns-in-Some
returns-in-Some g c = record {
  turn = bad_size_goes c.args.self.now c.args.batch c.in-Some.refusal (sym c.size_refusal.ensures ∙ c.in-Some.is);
}

pub returns-in-Some-stopping : goal.returns-in-Some-stopping
returns-in-Some-stopping g c =
    let w = c.self.inside in
    record { turn = rw (← c.self.view_is) (stopped_goes _ c.args.batch w.last_seq w.handed_seq c.in-Some-stopping.failure (record { stays = rw (← c.self.view_is) at (c.is_closed.ensures ∙ c.if-is_closed.false); booted = rw (← c.self.view_is) at (c.has_booted.ensures ∙ c.if-not-has_booted.false); last = c.self.invariant.seq; handed = c.self.invariant.handed }) (sym c.size_refusal.ensures ∙ c.in_default.is) (sym c.stopping.ensures ∙ c.in-Some-stopping.is)) }

pub returns-then-self-ops_before-gt-LAST_NUMBER : goal.returns-then-self-ops_before-gt-LAST_NUMBER
returns-then-self-ops_before-gt-LAST_NUMBER g c =
    let w = c.self.inside in
    record {
      turn = rw (← c.self.view_is) (seq_spent _ c.args.batch w.last_seq w.handed_seq (record { known = record { stays = rw (← c.self.view_is) at (c.is_closed.ensures ∙ c.if-is_closed.false); booted = rw (← c.self.view_is) at (c.has_booted.ensures ∙ c.if-not-has_booted.false); last = c.self.invariant.seq; handed = c.self.invariant.handed }; sized = sym c.size_refusal.ensures ∙ c.in_default.is; calm = sym c.stopping.ensures ∙ c.in-None.is })
          (omega (arith, c.ops_before.ensures, c.len-ops.ensures, c.if-self-ops_before-gt-LAST_NUMBER.true)));
    }

pub returns-then-self-ge-LAST_NUMBER : goal.returns-then-self-ge-LAST_NUMBER
returns-then-self-ge-LAST_NUMBER g c =
    let w = c.self.inside in
    record {
      turn = rw (← c.self.view_is) (ticket_spent _ c.args.batch w.last_seq w.handed_seq (record { known = record { stays = rw (← c.self.view_is) at (c.is_closed.ensures ∙ c.if-is_closed.false); booted = rw (← c.self.view_is) at (c.has_booted.ensures ∙ c.if-not-has_booted.false); last = c.self.invariant.seq; handed = c.self.invariant.handed }; sized = sym c.size_refusal.ensures ∙ c.in_default.is; calm = sym c.stopping.ensures ∙ c.in-None.is })
          (omega (arith, c.ops_before.ensures, c.len-ops.ensures, c.if-self-ops_before-gt-LAST_NUMBER.false)) c.if-self-ge-LAST_NUMBER.true);
    }

pub returns-then-is_store_full : goal.returns-then-is_store_full
returns-then-is_store_full g c =
    let w = c.self.inside in
    record {
      turn = rw (← c.self.view_is) (store_full _ c.args.batch w.last_seq w.handed_seq c.weight.result c.len.result (record { known = record { stays = rw (← c.self.view_is) at (c.is_closed.ensures ∙ c.if-is_closed.false); booted = rw (← c.self.view_is) at (c.has_booted.ensures ∙ c.if-not-has_booted.false); last = c.self.invariant.seq; handed = c.self.invariant.handed }; sized = sym c.size_refusal.ensures ∙ c.in_default.is; calm = sym c.stopping.ensures ∙ c.in-None.is })
          (omega (arith, c.ops_before.ensures, c.len-ops.ensures, c.if-self-ops_before-gt-LAST_NUMBER.false)) (omega (arith, c.if-self-ge-LAST_NUMBER.false)) (rw (← c.self.view_is) at (sym c.is_store_full.ensures ∙ c.if-is_store_full.true)) c.weight.ensures.value (omega (arith, c.len.ensures, shown_many w.segments.items)));
    }

pub returns-then-waiting-ge-MAX_WAITING : goal.returns-then-waiting-ge-MAX_WAITING
returns-then-waiting-ge-MAX_WAITING g c =
    let w = c.self.inside in
    record {
      turn = rw (← c.self.view_is) (queue_full _ c.args.batch w.last_seq w.handed_seq c.waiting-waiting.result (record { known = record { stays = rw (← c.self.view_is) at (c.is_closed.ensures ∙ c.if-is_closed.false); booted = rw (← c.self.view_is) at (c.has_booted.ensures ∙ c.if-not-has_booted.false); last = c.self.invariant.seq; handed = c.self.invariant.handed }; sized = sym c.size_refusal.ensures ∙ c.in_default.is; calm = sym c.stopping.ensures ∙ c.in-None.is })
          (omega (arith, c.ops_before.ensures, c.len-ops.ensures, c.if-self-ops_before-gt-LAST_NUMBER.false)) (omega (arith, c.if-self-ge-LAST_NUMBER.false)) (rw (← c.self.view_is) at (sym c.is_store_full.ensures ∙ c.if-is_store_full.false)) c.waiting-waiting.ensures.count c.if-waiting-ge-MAX_WAITING.true);
    }

pub reserve-requires-3-clause-limits : goal.reserve-requires-3-clause-limits
reserve-requires-3-clause-limits g c = (admissible c.args.batch (sym c.size_refusal.ensures ∙ c.in_default.is)).each

pub join_reserved-requires-clause-admissible : goal.join_reserved-requires-clause-admissible
join_reserved-requires-clause-admissible g c = admissible c.args.batch (sym c.size_refusal.ensures ∙ c.in_default.is)

pub invariant_of-self-2 : goal.invariant_of-self-2
invariant_of-self-2 g c =
    let w = c.self.inside in
    let t = c.reserve.ensures in
    let q = c.reserve-2.ensures in
    let trail_ok = where_ok c.reserve.result (sym c.is_err.ensures.value ∙ c.if-is_err.false) t.ok in
    let outcome_ok = where_ok c.reserve-2.result (sym c.is_err-2.ensures.value ∙ c.if-is_err-2.false) q.ok in
    joined_in_order w.mem c.reserve-3.new.self w.trail c.reserve.new.self w.queue _ _ w.last_seq w.handed_seq w.next_file.number c.args.batch c.self.invariant
    (record {
      shows = t.same;
      limbo = t.limbo;
      trail_room = omega (arith, trail_ok, c.held.ensures, c.waiting-waiting.ensures.count);
      waiting = c.join_reserved.ensures ∙ (λ k. q.waiting k ++ ticketed (q.last_ticket k + 1) c.args.batch ∷ []);
      group = q.group;
      outcomes = q.outcomes;
      outcome_room = outcome_ok;
      ticket = ap (λ n. n + 1) q.last_ticket;
      job = q.job;
    })
    (omega (arith, c.ops_before.ensures, c.len-ops.ensures, c.if-self-ops_before-gt-LAST_NUMBER.false)) (omega (arith, c.if-self-ge-LAST_NUMBER.false))
    (record {
      rows = c.reserve-3.ensures.rows;
      bytes = where_ok c.reserve-3.result (sym c.is_err-3.ensures.value ∙ c.if-is_err-3.false) c.reserve-3.ensures.bytes;
      entries = where_ok c.reserve-3.result (sym c.is_err-3.ensures.value ∙ c.if-is_err-3.false) c.reserve-3.ensures.entries;
    })

pub returns : goal.returns
returns g c =
    let w = c.self.inside in
    let q = c.reserve-2.ensures in
    let D = g.D.Disk in
    let old : CoreView = record {
      device = D.seen w.disk;
      options = w.options;
      boot = boot_shown w.boot;
      boot_job = w.boot_job;
      trail = shown w.trail;
      immutable = segments_shown w.segments.items;
      rows = w.mem.rows;
      log = log_shown w.log;
      levels = levels_in w.tables;
      waiting = w.queue.waiting.items;
      group = flying w.queue.group;
      outcomes = w.queue.outcomes.items;
      last_ticket = w.queue.last_ticket;
      job = w.queue.job;
      flush = w.flush;
      flush_job = w.flush_job;
      handler = w.handler;
      next_file = w.next_file.number;
      manifest = w.manifest;
    } in
    let added = c.join_reserved.ensures ∙ (λ k. q.waiting k ++ ticketed (q.last_ticket k + 1) c.args.batch ∷ []) in
    record {
      turn = rw (← c.self.view_is, c.reserve.ensures.same, c.reserve-3.ensures.rows, added, q.group, q.outcomes, q.last_ticket, q.job)
          (queued_goes old c.args.batch w.last_seq w.handed_seq (record { known = record { stays = rw (← c.self.view_is) at (c.is_closed.ensures ∙ c.if-is_closed.false); booted = rw (← c.self.view_is) at (c.has_booted.ensures ∙ c.if-not-has_booted.false); last = c.self.invariant.seq; handed = c.self.invariant.handed }; sized = sym c.size_refusal.ensures ∙ c.in_default.is; calm = sym c.stopping.ensures ∙ c.in-None.is })
          (omega (arith, c.ops_before.ensures, c.len-ops.ensures, c.if-self-ops_before-gt-LAST_NUMBER.false)) (omega (arith, c.if-self-ge-LAST_NUMBER.false)) (rw (← c.self.view_is) at (sym c.is_store_full.ensures ∙ c.if-is_store_full.false))
          (omega (arith, c.waiting-waiting.ensures.count, c.if-waiting-ge-MAX_WAITING.false)));
    }
