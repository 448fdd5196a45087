-- A group's append and its sync keep what the store's logs hold.
use Rattle.std.proofs.Common.{◌≡◌, inl, inr, ℕ, ◌+◌, Bool, true, false, List, [], ◌∷◌, ◌++◌, length, take, drop, Option, Some, None, refl, sym, ap, subst, ◌∙◌, arith}
use Rattle.std.proofs.lemmas.List.{append_assoc, append-nil}
use Rattle.keel_base.specs.Points.{Point, fold_batches}
use Rattle.keel_base.specs.declared.failure.Failure.{Failure}
use Rattle.keel_base.specs.declared.file_name.FileName.TheVariants.{Log}
use Rattle.keel_base.specs.declared.op.Batch.{Batch}
use Rattle.keel_base.specs.declared.op.Op.{Op}
use Rattle.keel_batch.specs.Batches.{payloads_behind, AreBatches}
use Rattle.keel_disk.specs.declared.change.Change.TheVariants.{Append, Sync}
use Rattle.keel_disk.specs.Sound.{IsOneToOne}
use Rattle.keel_disk.specs.State.{State as Disk}
use Rattle.keel_disk.specs.Step.{DiskStep}
use Rattle.keel_disk.specs.Steady.{CutsExist}
use Rattle.keel_frag.specs.Writing.{records_bytes}
use Rattle.keel_machine.specs.Admission.{ops_of}
use Rattle.keel_group.specs.Queue.{Ticketed}
use Rattle.keel_machine.specs.States.{State, Story, SegmentLog, Segment, Group, Act, SyncLog, point_of, handed, published}
use Rattle.keel_recovery.specs.Calls.{point_handed, CanGrow, grown}
use Rattle.keel_recovery.specs.Keeping.{Keeps}
use Rattle.keel_recovery.specs.Machine.{HasLog}
use Rattle.keel_recovery.specs.Waiting.{AreOnTheirWay, ops_waiting}
use Rattle.keel_recovery.specs.Roots.{point_at}
use Rattle.keel_recovery.proofs.FlushKept.{flush_on, longer_last, longer_same}
use Rattle.keel_recovery.proofs.Following.{point_stays, same_all}
use Rattle.keel_recovery.proofs.Growing.{log_append_keeps}
use Rattle.keel_recovery.proofs.Publishing.{publish_keeps}
use Rattle.keel_recovery.proofs.Ordering.{went_well, first_limits, handed_order, published_order, none_handed, goes_while}
use Rattle.keel_recovery.proofs.Switching.{closed}

module _ (s : State) (group : Group) (log : SegmentLog) (before after : Disk) (one : IsOneToOne before) (cuts : CutsExist before) (halts : Option Failure) where
  abbrev story : Story
  story = s.story

  abbrev immutable : List Segment
  immutable = s.segments.immutable

  abbrev batches : List (List Op)
  batches = s.segments.active.batches

  abbrev waiting : List Ticketed
  waiting = s.writing.waiting

  abbrev next_file : ℕ
  next_file = s.numbers.next_file

  abbrev own_batches : List Batch
  own_batches = group.batches

  abbrev plan : List Act
  plan = group.plan

  abbrev made : ℕ
  made = group.progress.made

  abbrev group_in : List Batch → ℕ → Option ℕ → Group
  group_in given count drawn = record group { batches = given; progress = record { made = count; log = drawn } }

  abbrev running : Option ℕ → Option Group
  running drawn = Some (group_in own_batches made drawn)

  abbrev LogBefore : Option ℕ → Type 0
  LogBefore drawn = HasLog log before s.levels story immutable batches waiting halts (running drawn) next_file s.numbers.in_tables s.jobs.flush.running s.numbers.manifest

  -- ---- an append

  -- the bytes of the group's records
  abbrev added : List ℕ
  added = records_bytes log.size (payloads_behind (point_of story).seq (ops_of own_batches))

  abbrev tried : Story
  tried = handed (ops_of own_batches) story

  bytes_are : story.limbo ≡ [] → added ≡ records_bytes log.size (payloads_behind (point_handed story).seq (ops_of own_batches))
  bytes_are none = ap (λ (p : Point). records_bytes log.size (payloads_behind p.seq (ops_of own_batches))) (sym (none_handed story none))

  limits_are : story.limbo ≡ [] → AreOnTheirWay story (running None) waiting → AreBatches (point_handed story).seq (ops_of own_batches)
  limits_are none order =
      subst (λ (p : Point). AreBatches p.seq (ops_of own_batches)) (sym (none_handed story none))
      (first_limits (point_of story).seq story.limbo (ops_of own_batches) (ops_waiting waiting) none order)

  abbrev longer : SegmentLog
  longer = record log { size = log.size + length added }

  -- the log with the group's batches
  record Added (h : LogBefore None) : Type 0 where
    kept : Keeps (h.way ∷ []) h.place (h.full ++ grown (ops_of own_batches) h.own ∷ []) s.levels tried next_file after
    can : CanGrow h.full (grown (ops_of own_batches) h.own) (log.size + length added) after

  appended : (h : LogBefore None) → story.limbo ≡ [] → DiskStep before (Append (Log log.number) added) went_well after → Added h
  appended h none step =
      let there = subst (λ (n : ℕ). DiskStep before (Append (Log n) added) went_well after) (sym h.number_is) step in
      let both = log_append_keeps (h.way ∷ []) h.place next_file log.size h.full h.own (ops_of own_batches) added s.levels story went_well before after one h.keeps h.order.0
      (limits_are none h.order.2) (bytes_are none) there in
      record { kept = both.0; can = both.1 }

  grown_batches : (h : LogBefore None) → h.own.batches ++ ops_of own_batches ≡ batches ++ (story.limbo ++ ops_of own_batches)
  grown_batches h = ap (λ (l : List (List Op)). l ++ ops_of own_batches) h.batches_are ∙ append_assoc batches story.limbo (ops_of own_batches)

  tables_handed : (h : LogBefore None) → (point_at h.place tried).seq ≡ s.numbers.in_tables
  tables_handed h = ap (λ (p : Point). p.seq) (point_stays h.place story (ops_of own_batches) h.keeps.stored.place_within) ∙ h.tables_to

  -- the sync is left
  pub add_done : (h : LogBefore None) → story.limbo ≡ [] → drop (made + 1) plan ≡ SyncLog ∷ [] → DiskStep before (Append (Log log.number) added) went_well after
      → HasLog longer after s.levels tried immutable batches waiting halts (Some (group_in [] (made + 1) None)) next_file s.numbers.in_tables s.jobs.flush.running s.numbers.manifest
  add_done h none left step =
      let behind = appended h none step in
      record {
        way = h.way;
        place = h.place;
        full = h.full;
        are_full = h.are_full;
        own = grown (ops_of own_batches) h.own;
        number_is = h.number_is;
        batches_are = grown_batches h;
        keeps = behind.kept;
        reach = h.reach;
        tables_to = tables_handed h;
        flushes = flush_on (Append (Log log.number) added) went_well before after one tt tt step h.way s.numbers.manifest s.jobs.flush.running halts s.levels s.numbers.in_tables (h.full ++ h.own ∷ []) (h.full ++ grown (ops_of own_batches) h.own ∷ []) next_file next_file (longer_last h.full h.own (grown (ops_of own_batches) h.own) refl) (omega arith) h.flushes.most h.flushes;
        order = (
          behind.can,
          inl (inr (record { all_handed = refl; left_is = left })),
          handed_order (point_of story).seq story.limbo (ops_of own_batches) (ops_waiting waiting) h.order.2,
        );
      }

  tables_published : (sync : Bool) (place : ℕ) (next : Story) → (point_at place (published sync next)).seq ≡ (point_at place next).seq
  tables_published sync place next = ap (λ (l : List (List Op)). (fold_batches next.start (take place l)).seq) (same_all sync next)

  -- no sync is wanted
  pub add_published : (h : LogBefore None) → story.limbo ≡ [] → DiskStep before (Append (Log log.number) added) went_well after
      → HasLog longer after s.levels (published false tried) immutable (batches ++ tried.limbo) waiting halts None next_file s.numbers.in_tables s.jobs.flush.running s.numbers.manifest
  add_published h none step =
      let behind = appended h none step in
      let own = grown (ops_of own_batches) h.own in
      record {
        way = h.way;
        place = h.place;
        full = h.full;
        are_full = h.are_full;
        own = own;
        number_is = h.number_is;
        batches_are = grown_batches h ∙ sym (append-nil (batches ++ tried.limbo));
        keeps = publish_keeps (h.way ∷ []) h.place next_file (log.size + length added) false h.full own s.levels tried after behind.kept behind.can h.reach (λ e. cc);
        reach = h.reach;
        tables_to = tables_published false h.place tried ∙ tables_handed h;
        flushes = flush_on (Append (Log log.number) added) went_well before after one tt tt step h.way s.numbers.manifest s.jobs.flush.running halts s.levels s.numbers.in_tables (h.full ++ h.own ∷ []) (h.full ++ grown (ops_of own_batches) h.own ∷ []) next_file next_file (longer_last h.full h.own (grown (ops_of own_batches) h.own) refl) (omega arith) h.flushes.most h.flushes;
        order = goes_while halts _ (
          behind.can,
          refl,
          published_order tried (ops_waiting waiting) (handed_order (point_of story).seq story.limbo (ops_of own_batches) (ops_waiting waiting) h.order.2),
        );
      }

  pub sync_done : (h : LogBefore None) → own_batches ≡ [] → DiskStep before (Sync (Log log.number)) went_well after
      → HasLog log after s.levels (published true story) immutable (batches ++ story.limbo) waiting halts None next_file s.numbers.in_tables s.jobs.flush.running s.numbers.manifest
  sync_done h none step =
      let behind = closed s group log before after one cuts halts h step in
      record {
        way = h.way;
        place = h.place;
        full = h.full;
        are_full = h.are_full;
        own = h.own;
        number_is = h.number_is;
        batches_are = h.batches_are ∙ sym (append-nil (batches ++ story.limbo));
        keeps = publish_keeps (h.way ∷ []) h.place next_file log.size true h.full h.own s.levels story after behind.0 behind.1 h.reach (λ e. behind.2);
        reach = h.reach;
        tables_to = tables_published true h.place story ∙ h.tables_to;
        flushes = flush_on (Sync (Log log.number)) went_well before after one tt tt step h.way s.numbers.manifest s.jobs.flush.running halts s.levels s.numbers.in_tables (h.full ++ h.own ∷ []) (h.full ++ h.own ∷ []) next_file next_file (longer_same (h.full ++ h.own ∷ [])) (omega arith) h.flushes.most h.flushes;
        order = goes_while halts _ (
          behind.1,
          refl,
          published_order story (ops_waiting waiting)
              (subst (λ (b : List Batch). AreBatches (point_of story).seq (story.limbo ++ (ops_of b ++ ops_waiting waiting))) none h.order.2),
        );
      }
