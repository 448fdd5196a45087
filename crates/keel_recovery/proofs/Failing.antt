-- Each call of a group that fails keeps what the store's logs hold.
use Rattle.std.specs.Prelude.{is_some}
use Rattle.std.proofs.Common.{◌≡◌, ℕ, ◌+◌, ◌^◌, ◌<◌, true, List, [], ◌∷◌, ◌++◌, Option, Some, None, refl, sym, ap, subst, ◌∙◌, arith}
use Rattle.std.proofs.lemmas.List.{append_assoc}
use Rattle.keel_base.specs.Points.{Point}
use Rattle.keel_base.specs.declared.failure.Failure.{Failure}
use Rattle.keel_base.specs.declared.failure.Fault.{Fault}
use Rattle.keel_base.specs.declared.file_name.FileName.TheVariants.{Log}
use Rattle.keel_base.specs.declared.op.Batch.{Batch}
use Rattle.keel_base.specs.declared.op.Op.{Op}
use Rattle.keel_batch.specs.Batches.{payloads_behind, AreBatches}
use Rattle.keel_disk.specs.declared.change.Change.TheVariants.{Create, Append, Sync, SyncDir}
use Rattle.keel_disk.specs.Sound.{IsOneToOne}
use Rattle.keel_disk.specs.State.{State as Disk}
use Rattle.keel_disk.specs.Step.{DiskStep}
use Rattle.keel_disk.specs.Steady.{CutsExist}
use Rattle.keel_frag.specs.Writing.{records_bytes}
use Rattle.keel_machine.specs.Admission.{ops_of}
use Rattle.keel_group.specs.Queue.{Ticketed}
use Rattle.keel_machine.specs.States.{State, Story, SegmentLog, Segment, Group, Act, point_of, handed}
use Rattle.keel_recovery.specs.Calls.{point_handed, grown}
use Rattle.keel_recovery.specs.Machine.{HasLog}
use Rattle.keel_recovery.specs.Waiting.{AreOnTheirWay, ops_waiting}
use Rattle.keel_recovery.specs.Roots.{point_at}
use Rattle.keel_recovery.proofs.FlushKept.{flush_on, flush_stops, longer_last, longer_same}
use Rattle.keel_recovery.proofs.Framing.{create_keeps}
use Rattle.keel_recovery.proofs.Following.{point_stays}
use Rattle.keel_recovery.proofs.Growing.{log_append_keeps, log_sync_keeps}
use Rattle.keel_recovery.proofs.Joining.{sync_dir_keeps}
use Rattle.keel_recovery.proofs.Ordering.{went_wrong, first_limits, none_handed, stopped, whole_push}

module _ (s : State) (group : Group) (log : SegmentLog) (before after : Disk) (one : IsOneToOne before) (cuts : CutsExist before) (halts : Option Failure) where
  abbrev story : Story
  story = s.story

  abbrev immutable : List Segment
  immutable = s.segments.immutable

  abbrev batches : List (List Op)
  batches = s.segments.active.batches

  abbrev waiting : List Ticketed
  waiting = s.writing.waiting

  abbrev next_file : ℕ
  next_file = s.numbers.next_file

  abbrev own_batches : List Batch
  own_batches = group.batches

  abbrev plan : List Act
  plan = group.plan

  abbrev made : ℕ
  made = group.progress.made

  abbrev group_in : List Batch → ℕ → Option ℕ → Group
  group_in given count drawn = record group { batches = given; progress = record { made = count; log = drawn } }

  abbrev running : Option ℕ → Option Group
  running drawn = Some (group_in own_batches made drawn)

  abbrev LogBefore : Option ℕ → Type 0
  LogBefore drawn = HasLog log before s.levels story immutable batches waiting halts (running drawn) next_file s.numbers.in_tables s.jobs.flush.running s.numbers.manifest

  -- the bytes of the group's records
  abbrev added : List ℕ
  added = records_bytes log.size (payloads_behind (point_of story).seq (ops_of own_batches))

  abbrev tried : Story
  tried = handed (ops_of own_batches) story

  bytes_are : story.limbo ≡ [] → added ≡ records_bytes log.size (payloads_behind (point_handed story).seq (ops_of own_batches))
  bytes_are none = ap (λ (p : Point). records_bytes log.size (payloads_behind p.seq (ops_of own_batches))) (sym (none_handed story none))

  limits_are : story.limbo ≡ [] → AreOnTheirWay story (running None) waiting → AreBatches (point_handed story).seq (ops_of own_batches)
  limits_are none order =
      subst (λ (p : Point). AreBatches p.seq (ops_of own_batches)) (sym (none_handed story none))
      (first_limits (point_of story).seq story.limbo (ops_of own_batches) (ops_waiting waiting) none order)

  grown_batches : (h : LogBefore None) → h.own.batches ++ ops_of own_batches ≡ batches ++ (story.limbo ++ ops_of own_batches)
  grown_batches h = ap (λ (l : List (List Op)). l ++ ops_of own_batches) h.batches_are ∙ append_assoc batches story.limbo (ops_of own_batches)

  tables_handed : (h : LogBefore None) → (point_at h.place tried).seq ≡ s.numbers.in_tables
  tables_handed h = ap (λ (p : Point). p.seq) (point_stays h.place story (ops_of own_batches) h.keeps.stored.place_within) ∙ h.tables_to

  module _ (fault : Fault) (stops : Option Failure) (severe : is_some stops ≡ true) where
    pub make_failed : next_file < 2 ^ 56 → (h : LogBefore None) → DiskStep before (Create (Log next_file)) (went_wrong fault) after
        → HasLog log after s.levels story immutable batches waiting stops None (next_file + 1) s.numbers.in_tables s.jobs.flush.running s.numbers.manifest
    make_failed below_end h step = record {
      way = h.way;
      place = h.place;
      full = h.full;
      are_full = h.are_full;
      own = h.own;
      number_is = h.number_is;
      batches_are = h.batches_are;
      keeps = create_keeps (h.way ∷ []) h.place next_file (h.full ++ h.own ∷ []) s.levels story (went_wrong fault) before after one h.keeps step;
      reach = h.reach;
      tables_to = h.tables_to;
      flushes = flush_stops h.way s.levels s.numbers.in_tables (h.full ++ h.own ∷ []) halts stops s.jobs.flush.running (next_file + 1) s.numbers.manifest after severe
          (flush_on (Create (Log next_file)) (went_wrong fault) before after one tt tt step h.way s.numbers.manifest s.jobs.flush.running halts s.levels s.numbers.in_tables (h.full ++ h.own ∷ []) (h.full ++ h.own ∷ []) next_file (next_file + 1) (longer_same (h.full ++ h.own ∷ [])) (omega arith) (omega (arith, below_end)) h.flushes);
      order = stopped stops _ severe;
    }

    pub sync_dir_failed : (number : ℕ) (h : LogBefore (Some number)) → DiskStep before SyncDir (went_wrong fault) after
        → HasLog log after s.levels story immutable batches waiting stops None next_file s.numbers.in_tables s.jobs.flush.running s.numbers.manifest
    sync_dir_failed number h step = record {
      way = h.way;
      place = h.place;
      full = h.full;
      are_full = h.are_full;
      own = h.own;
      number_is = h.number_is;
      batches_are = h.batches_are;
      keeps = sync_dir_keeps (h.way ∷ []) h.place next_file number h.full h.own s.levels story (went_wrong fault) before after one h.keeps h.reach h.order.1.1.above h.order.1.1.new
          (whole_push h.full h.own before h.order.0.whole h.order.1.2) step;
      reach = h.reach;
      tables_to = h.tables_to;
      flushes = flush_stops h.way s.levels s.numbers.in_tables (h.full ++ h.own ∷ []) halts stops s.jobs.flush.running next_file s.numbers.manifest after severe
          (flush_on SyncDir (went_wrong fault) before after one tt tt step h.way s.numbers.manifest s.jobs.flush.running halts s.levels s.numbers.in_tables (h.full ++ h.own ∷ []) (h.full ++ h.own ∷ []) next_file next_file (longer_same (h.full ++ h.own ∷ [])) (omega arith) h.flushes.most h.flushes);
      order = stopped stops _ severe;
    }

    abbrev spoilt : SegmentLog
    spoilt = record log { failed = true }

    pub add_failed : (h : LogBefore None) → story.limbo ≡ [] → DiskStep before (Append (Log log.number) added) (went_wrong fault) after
        → HasLog spoilt after s.levels tried immutable batches waiting stops None next_file s.numbers.in_tables s.jobs.flush.running s.numbers.manifest
    add_failed h none step =
        let there = subst (λ (n : ℕ). DiskStep before (Append (Log n) added) (went_wrong fault) after) (sym h.number_is) step in
        record {
          way = h.way;
          place = h.place;
          full = h.full;
          are_full = h.are_full;
          own = grown (ops_of own_batches) h.own;
          number_is = h.number_is;
          batches_are = grown_batches h;
          keeps = log_append_keeps (h.way ∷ []) h.place next_file log.size h.full h.own (ops_of own_batches) added s.levels story (went_wrong fault) before after one h.keeps h.order.0
              (limits_are none h.order.2) (bytes_are none) there;
          reach = h.reach;
          tables_to = tables_handed h;
          flushes = flush_stops h.way s.levels s.numbers.in_tables (h.full ++ grown (ops_of own_batches) h.own ∷ []) halts stops s.jobs.flush.running next_file s.numbers.manifest after severe
              (flush_on (Append (Log log.number) added) (went_wrong fault) before after one tt tt step h.way s.numbers.manifest s.jobs.flush.running halts s.levels s.numbers.in_tables (h.full ++ h.own ∷ []) (h.full ++ grown (ops_of own_batches) h.own ∷ []) next_file next_file (longer_last h.full h.own (grown (ops_of own_batches) h.own) refl) (omega arith) h.flushes.most h.flushes);
          order = stopped stops _ severe;
        }

    pub sync_failed : (h : LogBefore None) → DiskStep before (Sync (Log log.number)) (went_wrong fault) after
        → HasLog spoilt after s.levels story immutable batches waiting stops None next_file s.numbers.in_tables s.jobs.flush.running s.numbers.manifest
    sync_failed h step =
        let there = subst (λ (n : ℕ). DiskStep before (Sync (Log n)) (went_wrong fault) after) (sym h.number_is) step in
        record {
          way = h.way;
          place = h.place;
          full = h.full;
          are_full = h.are_full;
          own = h.own;
          number_is = h.number_is;
          batches_are = h.batches_are;
          keeps = log_sync_keeps (h.way ∷ []) h.place next_file log.size h.full h.own s.levels story (went_wrong fault) before after one h.keeps h.order.0 there;
          reach = h.reach;
          tables_to = h.tables_to;
          flushes = flush_stops h.way s.levels s.numbers.in_tables (h.full ++ h.own ∷ []) halts stops s.jobs.flush.running next_file s.numbers.manifest after severe
              (flush_on (Sync (Log log.number)) (went_wrong fault) before after one tt tt step h.way s.numbers.manifest s.jobs.flush.running halts s.levels s.numbers.in_tables (h.full ++ h.own ∷ []) (h.full ++ h.own ∷ []) next_file next_file (longer_same (h.full ++ h.own ∷ [])) (omega arith) h.flushes.most h.flushes);
          order = stopped stops _ severe;
        }
