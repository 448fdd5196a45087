use Rattle.std.proofs.Common.{◌+◌, length, drop, ap, sym, subst, ◌∙◌, arith}
use Rattle.std.proofs.lemmas.List.{length-map}
use Rattle.keel_levels.specs.declared.live.LiveTable.{LiveTable}
use Rattle.keel_core.specs.Covering.{AreTablesFor}
use Rattle.keel_core.specs.Views.{CoreView}
use Rattle.keel_core.specs.Segments.{segment_shown, segments_shown}
use Rattle.keel_core.proofs.BootCovers.{CoversTo, begin_covers, covers_all, covers_next, entries_many, has_rows, job_begins, job_goes}
use Rattle.keel_core.proofs.Lists.{next_item, none_behind}
use Rattle.keel_core.proofs.store.Core.job_of_full.Goals as goal

pub loop-segment-init : goal.loop-segment-init
loop-segment-init g c =
    let w = c.self.inside in
    let job = c.new-job.ensures.job in
    let live = c.in_ok-copied.ensures in
    rw (← c.self.view_is) (record {
      job = job_begins c.new-job.result.job _ _ w.last_seq _ job live c.self.invariant.seq;
      going = c.new-job.ensures.over;
      few = omega (arith, c.if-len-ge-MANY_TABLES.false, c.len.ensures, entries_many w.tables.live w.tables.entries w.tables.same, ap (λ j. length j.drafts) job);
      covers = begin_covers _ c.new-job.result.job.drafts (ap (λ j. j.drafts) job);
    })

pub cover-requires-clause-start : goal.cover-requires-clause-start
cover-requires-clause-start g c = ap (λ j. j.progress) c.loop-segment.invariant.job

pub loop-segment-preserved : goal.loop-segment-preserved
loop-segment-preserved g c =
    let items = c.as_slice-segment-items.result.now in
    let i = c.loop-segment.segment-index in
    let held = c.loop-segment.invariant in
    let k = c.in_ok-cover.ensures.ok in
    let job = job_goes c.loop-segment.job.job c.cover.new.self.job _ _ k.draft (ap (λ s. s.job) k.after_is) held.job in
    let live = ap (λ j. length j.live) job in
    let many = length-map c.args.self.now.levels (λ (t : LiveTable). t.entry) in
    let next = ap segments_shown (next_item items i c.segment-item.result c.loop-segment-test.true c.segment-item.is) in
    let some = has_rows c.segment-item.result.mem.rows c.weight.result c.weight.ensures.value c.if-weight-eq0.false in
    record {
      job = job;
      going = ap (λ s. s.over) k.after_is ∙ held.going;
      few = omega (arith, k.few, live, many);
      covers = subst (CoversTo (segments_shown items) (segments_shown (drop (i + 1) items))) (sym (ap (λ s. s.job.drafts) k.after_is))
          (covers_next (segments_shown items) _ _ (segment_shown c.segment-item.result) c.loop-segment.job.job.drafts k.draft next some k.is held.covers);
    }

pub returns : goal.returns
returns g c =
    let items = c.as_slice-segment-items.result.now in
    let held = c.loop-segment.invariant in
    let none = ap segments_shown (none_behind items c.loop-segment.segment-index c.loop-segment-test.false) in
    let drafts = c.loop-segment.job.job.drafts in
    record {
      are = subst (λ l. AreTablesFor l drafts) (ap segments_shown c.as_slice-segment-items.ensures.value ∙ ap (λ (v : CoreView). v.immutable) c.self.view_is)
          (covers_all (segments_shown items) _ drafts none held.covers);
      few = held.few;
      job = held.job;
      going = held.going;
    }
